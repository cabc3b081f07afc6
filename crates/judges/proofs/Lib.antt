mod Judging
mod NeedSearch
mod PacketSearch
mod Secrecy
