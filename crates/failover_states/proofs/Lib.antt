mod Places
mod Told
