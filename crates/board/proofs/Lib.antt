pub mod Boards
mod Checked
mod Entered
mod Moved
