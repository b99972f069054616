mod AllSaid
mod WellGroups
