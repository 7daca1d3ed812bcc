pub mod FreshWords
