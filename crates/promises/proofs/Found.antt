-- What a lenient parse finds, and what a parse returns.
use Rattle.std.proofs.Common.{◌≡◌, ◌↔◌, List, ℕ, Option, None, Some, is_some, false, ap, refl}
use Rattle.std.specs.Prelude.{Err, IfOk, Ok, Result, is_ok}
use Rattle.ip_wire.proofs.Found.{gives-carried, gives-transport}
use Rattle.ip_wire.specs.Frame as frame
use Rattle.ip_wire.specs.Frame.{ReadsCarried, ReadsTransport}
use Rattle.ip_wire.specs.FrameValue.{FindsCarried, FindsTransport, GivesCarried, GivesTransport, ParsesCarried, ParsesTransport, carried_of, transport_of}
use Rattle.ip_wire.specs.Types.{EthernetProtocol, IpRepr}
use Rattle.ip_wire.specs.declared.frame.carried.Carried.{Carried}
use Rattle.ip_wire.specs.declared.frame.transport.Transport.{Transport}
use Rattle.ip_wire.specs.declared.ChecksumCapabilities.{ChecksumCapabilities}

-- what has no value is none
empty : {A : Type 0} (o : Option A) → ((a : A) → ¬ (o ≡ Some a)) → is_some o ≡ false
empty None none = refl
empty (Some a) none = absurd (none a refl)

-- a transport is read exactly if its parse is Ok
pub transport_read : {E : Type 0} (caps : ChecksumCapabilities) (v : IpRepr) (bytes : List ℕ) (t : Transport) (r : Result Transport E)
    → FindsTransport caps v bytes t → IfOk r (ParsesTransport caps v bytes)
    → ((s : frame.Transport) → GivesTransport r s ↔ ReadsTransport caps v bytes s) → is_some (transport_of t) ≡ is_ok r
transport_read caps v bytes t (Ok u) found (read, is, reads) gives = ap is_some ((gives-transport caps v bytes t found read).1 reads)
transport_read caps v bytes t (Err e) found parses gives = empty (transport_of t) (λ s is. (gives s).1 ((gives-transport caps v bytes t found s).0 is))

-- what a frame carries is read exactly if its parse is Ok
pub carried_read : {E : Type 0} (caps : ChecksumCapabilities) (t : EthernetProtocol) (bytes : List ℕ) (c : Carried) (r : Result Carried E)
    → FindsCarried caps t bytes c → IfOk r (ParsesCarried caps t bytes)
    → ((d : frame.Carried) → GivesCarried r d ↔ ReadsCarried caps t bytes d) → is_some (carried_of c) ≡ is_ok r
carried_read caps t bytes c (Ok u) found (read, is, reads) gives = ap is_some ((gives-carried caps t bytes c found read).1 reads)
carried_read caps t bytes c (Err e) found parses gives = empty (carried_of c) (λ d is. (gives d).1 ((gives-carried caps t bytes c found d).0 is))
