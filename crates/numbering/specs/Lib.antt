pub mod Deciding
pub mod Numbers
pub mod Outcomes
pub mod Rounds
pub mod Systems
pub mod Walks
