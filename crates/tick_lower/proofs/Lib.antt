mod Captures
mod Counted
mod Rest
mod Viewed
