mod Books
mod Positions
