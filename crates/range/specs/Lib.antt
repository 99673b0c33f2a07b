pub mod Sum
pub mod First
pub mod Lists
pub mod Choice
pub mod Reply
