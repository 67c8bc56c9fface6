mod Followed
mod Saves
mod Acts
mod Refused
