mod Accepting
mod Deciding
mod Diagnosing
mod Placing
mod Reporting
mod Trying
mod Walking
mod Telling
