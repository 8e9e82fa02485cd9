-- The short applications have one answer.
use Rattle.std.proofs.Common.{ℕ, ◌≡◌, ◌∙◌, ◌↔◌, Bool, IsTrue, List, Result, Ok, Err, if◌then◌else◌, refl, subst, sym}
use Rattle.std.proofs.lemmas.Bool.Decides.{same_from_decides}
use Rattle.app_short.specs.Clamp.{IsAbove}
use Rattle.app_short.specs.Flow.{IsOneFlow, key_of}
use Rattle.app_short.specs.declared.flow_key.Flow.{Flow}
use Rattle.app_short.specs.declared.flow_key.FlowKey.{FlowKey}
use Rattle.ip_wire.specs.TcpRepr as tcp
use Rattle.ip_wire.specs.TcpRepr.{TcpHeader}
use Rattle.ip_wire.specs.TcpSegmentSize.{with_max_seg_size}
use Rattle.ip_wire.specs.Types.{UdpRepr}
use Rattle.ip_wire.specs.declared.IpAddress.{IpAddress}
use Rattle.ip_wire.specs.declared.Error.{Error}

pub one_flow : (flow other : Flow) (a b : FlowKey) → ((o : Flow) → (key_of o ≡ a) ↔ IsOneFlow o flow) → b ≡ key_of other → (b ≡ a) ↔ IsOneFlow other flow
one_flow flow other a b tells is = ((λ same. (tells other).0 (sym is ∙ same)), λ one. is ∙ (tells other).1 one)

-- ---- segments

pub clamp_returned : (old same : List ℕ) (limit : ℕ) (a b : Bool) → old ≡ same
    → ((src dst : IpAddress) (verified : Bool) (v : TcpHeader) (payload : List ℕ) → tcp.Reads old src dst verified v payload → IsTrue a ↔ IsAbove limit v)
    → ((src dst : IpAddress) (verified : Bool) (v : TcpHeader) (payload : List ℕ) → tcp.Reads same src dst verified v payload → IsTrue b ↔ IsAbove limit v)
    → (src dst : IpAddress) (verified : Bool) (v : TcpHeader) (payload : List ℕ) → tcp.Reads old src dst verified v payload → a ≡ b
clamp_returned old same limit a b e x y src dst verified v payload r =
    same_from_decides a b (x src dst verified v payload r) (y src dst verified v payload (subst (λ l. tcp.Reads l src dst verified v payload) e r))

pub clamp_segment : (old same new other : List ℕ) (limit : ℕ) (a b : Bool) → old ≡ same
    → ((src dst : IpAddress) (verified : Bool) (v : TcpHeader) (payload : List ℕ) → tcp.Reads old src dst verified v payload → IsTrue a ↔ IsAbove limit v)
    → ((src dst : IpAddress) (verified : Bool) (v : TcpHeader) (payload : List ℕ) → tcp.Reads same src dst verified v payload → IsTrue b ↔ IsAbove limit v)
    → new ≡ (if a then with_max_seg_size old limit else old) → other ≡ (if b then with_max_seg_size same limit else same)
    → (src dst : IpAddress) (verified : Bool) (v : TcpHeader) (payload : List ℕ) → tcp.Reads old src dst verified v payload → new ≡ other
clamp_segment old same new other limit a b e x y m n src dst verified v payload r =
    let one = clamp_returned old same limit a b e x y src dst verified v payload r in
    m ∙ (λ i. if one i then with_max_seg_size (e i) limit else (e i)) ∙ sym n

-- ---- UDP packets

pub one_udp : (P : UdpRepr → Type 0) (a b : Result UdpRepr Error) → ((u : UdpRepr) → (a ≡ Ok u) ↔ P u) → ((u : UdpRepr) → (b ≡ Ok u) ↔ P u) → a ≡ b
one_udp P (Ok x) b h k = sym ((k x).1 ((h x).0 refl))
one_udp P (Err x) (Ok y) h k = (h y).1 ((k y).0 refl)
one_udp P (Err x) (Err y) h k = refl
