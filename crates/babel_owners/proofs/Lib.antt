mod SharedAddresses
mod TableOwners
mod AddrCmp
