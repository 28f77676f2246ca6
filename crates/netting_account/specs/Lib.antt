-- A net with one trade more, an account's nets in one walk, the accounts that the list names.
pub mod OneTrade
pub mod AccountNets
pub mod Named
