mod Streams
mod OneMore
mod RunText
mod Statuses
