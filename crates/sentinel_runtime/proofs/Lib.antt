mod Cutting
mod Handing
mod Hearing
mod HeardWell
mod Saying
