pub mod Same
pub mod Promises
pub mod Calls
pub mod EventCalls
pub mod Callable
pub mod Places
pub mod Demand3
pub mod Ends
