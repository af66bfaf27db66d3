mod Walking
mod Laws
mod Holding
mod Running
