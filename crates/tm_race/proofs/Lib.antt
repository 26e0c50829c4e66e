mod Growing
mod Free
mod Calm
mod Tracked
mod Walks
mod Exact
