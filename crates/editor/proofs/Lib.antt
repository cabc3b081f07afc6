mod Alike
mod Entering
mod Secrecy
