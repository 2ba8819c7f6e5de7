mod Crossing
mod Growing
