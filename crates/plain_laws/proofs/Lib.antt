pub mod Lists
pub mod Results
pub mod Searches
pub mod Tests
