pub mod Binds
pub mod KnownDirectives
pub mod Users
pub mod WatchLines
pub mod WatchConfs
pub mod RedisTexts
