use Rattle.ip_wire.specs.Endpoint.{ReadsEndpoint}
use Rattle.c_structs.specs.Addresses.{endpoint_struct}
use Rattle.promises_c.proofs.Once.{read_once}
use Rattle.ip_wire.proofs.EndTexts.{endpoint_once}
use Rattle.promises_c.proofs.addresses.one_endpoint.Goals as goal

pub returns-clause-returned : goal.returns-clause-returned
returns-clause-returned c = (read_once ReadsEndpoint endpoint_struct _ _ _ _ _ _ _ endpoint_once c.requires.old c.requires.first c.requires.second).0

pub returns-clause-stored : goal.returns-clause-stored
returns-clause-stored c = (read_once ReadsEndpoint endpoint_struct _ _ _ _ _ _ _ endpoint_once c.requires.old c.requires.first c.requires.second).1
