mod Digits
mod Cutting
mod Splitting
mod Forms
mod Commands
