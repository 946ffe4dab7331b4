mod Lists
mod Choices
mod Texts
mod Puts
