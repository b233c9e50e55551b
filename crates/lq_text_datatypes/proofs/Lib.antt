mod Defining
mod Rows
mod Stacks
mod Working
