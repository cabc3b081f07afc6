pub mod Entries
pub mod Queue
pub mod Queues
pub mod Traces
