mod Offered
mod Withheld
