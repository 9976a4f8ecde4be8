mod Taping
mod Standing
mod Rooms
