pub mod ToldSettings
