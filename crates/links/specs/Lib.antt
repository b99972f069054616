pub mod NodeLinks
pub mod HelloDedup
pub mod Schedules
pub mod Speaking
pub mod Targets
pub mod RecentFaults
pub mod Sessions
