use Rattle.ip_wire.specs.Read.{ReadsEthernet}
use Rattle.c_structs.specs.Addresses.{ethernet_bytes}
use Rattle.promises_c.proofs.Once.{one_ethernet, read_once}
use Rattle.promises_c.proofs.addresses.one_ethernet.Goals as goal

pub returns-clause-returned : goal.returns-clause-returned
returns-clause-returned c = (read_once ReadsEthernet ethernet_bytes _ _ _ _ _ _ _ one_ethernet c.requires.old c.requires.first c.requires.second).0

pub returns-clause-stored : goal.returns-clause-stored
returns-clause-stored c = (read_once ReadsEthernet ethernet_bytes _ _ _ _ _ _ _ one_ethernet c.requires.old c.requires.first c.requires.second).1
