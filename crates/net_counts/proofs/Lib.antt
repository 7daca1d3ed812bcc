pub mod CountMarks
