pub mod FreshMarks
