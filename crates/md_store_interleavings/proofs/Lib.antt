mod Acted
mod Ended
mod Looked
mod Plays
