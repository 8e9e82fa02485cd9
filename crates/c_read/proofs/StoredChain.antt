-- What the struct of an IPv6 packet has of its extension headers.
use Rattle.std.proofs.Common.{ℕ, ◌≡◌, ◌≢◌, ◌∙◌, ◌⊎◌, inl, inr, ◌==◌, ◌+◌, ◌-◌, Bool, true, false, List, Option, Some, None, ap, drop, length, refl, subst, sym, arith}
use Rattle.std.proofs.lemmas.Bool.{eqb-true}
use Rattle.std.specs.Option.{option_map_or}
use Rattle.ip_wire.specs.Protocol.{protocol_of}
use Rattle.ip_wire.specs.Types.{IpAddress}
use Rattle.ip_wire.specs.declared.IpAddress.TheVariants as address
use Rattle.ip_wire.specs.declared.Ipv6FragmentRepr.{Ipv6FragmentRepr}
use Rattle.c_structs.specs.Codes.{reason_code}
use Rattle.c_structs.specs.Written.{flag}
use Rattle.c_structs.specs.declared.types.FrameFields.{FrameFields}
use Rattle.c_structs.specs.declared.types.Ip.{Ip}
use Rattle.wire_extensions.proofs.Steps.{chain-none}
use Rattle.c_read.specs.Captured.{cut_transport_by}
use Rattle.c_read.specs.FrameFields.{extension_reason, fragment_values, with_chain, with_extended, with_transport_by}
use Rattle.wire_extensions.specs.Chain.{begun, chain_of, is_part}
use Rattle.wire_extensions.specs.Extension.{is_extension}
use Rattle.wire_extensions.specs.declared.chain.Chain.{Chain}
use Rattle.wire_extensions.specs.declared.chain.ExtensionFault.{ExtensionFault}
use Rattle.wire_extensions.specs.declared.chain.ExtensionFault.TheVariants as fault

-- ---- a packet without extension headers

begun-chain : (f : FrameFields) (rest : List ℕ) → with_chain f (begun f.protocol) rest ≡ f
begun-chain f rest =
    let offset : f.payload_offset + 0 ≡ f.payload_offset = omega arith in
    let len : f.payload_len - 0 ≡ f.payload_len = omega arith in
    ap (λ (n : ℕ). record f { payload_offset = n; payload_len = f.payload_len - 0 }) offset ∙ ap (λ (n : ℕ). record f { payload_len = n }) len

plain-by : (f : FrameFields) (src dst : IpAddress) (bytes : List ℕ) (c : Chain) → c ≡ begun f.protocol
    → with_transport_by (with_chain f c (drop c.len bytes)) (protocol_of c.protocol) src dst (drop c.len bytes) ≡ with_transport_by f (protocol_of f.protocol) src dst bytes
plain-by f src dst bytes c is =
    ap (λ (d : Chain). with_transport_by (with_chain f d (drop d.len bytes)) (protocol_of d.protocol) src dst (drop d.len bytes)) is
    ∙ ap (λ (g : FrameFields). with_transport_by g (protocol_of f.protocol) src dst bytes) (begun-chain f bytes)

-- its payload is stored as by itself
pub extended-none : (f : FrameFields) (src dst : IpAddress) (bytes : List ℕ) → is_extension f.protocol ≡ false
    → with_extended f src dst bytes ≡ with_transport_by f (protocol_of f.protocol) src dst bytes
extended-none f src dst bytes other = plain-by f src dst bytes (chain_of f.protocol (length bytes) bytes) (chain-none f.protocol (length bytes) bytes other)

-- ---- where the chain ends

-- what holds of each number of an extension header
pub each-extension : (P : ℕ → Type 0) (p : ℕ) → is_extension p ≡ true → P 0 → P 43 → P 44 → P 51 → P 60 → P p
each-extension P p is a b c d e = by (p == 0) (p == 43) (p == 44) (p == 51) (p == 60) refl refl refl refl refl
  where
    by : (t u v w x : Bool) → (p == 0) ≡ t → (p == 43) ≡ u → (p == 44) ≡ v → (p == 51) ≡ w → (p == 60) ≡ x → P p
    by true u v w x k l m n o = subst P (sym (eqb-true p 0 k)) a
    by false true v w x k l m n o = subst P (sym (eqb-true p 43 l)) b
    by false false true w x k l m n o = subst P (sym (eqb-true p 44 m)) c
    by false false false true x k l m n o = subst P (sym (eqb-true p 51 n)) d
    by false false false false true k l m n o = subst P (sym (eqb-true p 60 o)) e
    by false false false false false k l m n o = let never : false ≡ true = rw (k, l, m, n, o) at is in absurd (cc)

-- an extension header is no transport
pub extension-kept : (f : FrameFields) (p : ℕ) (src dst bytes : List ℕ) → is_extension p ≡ true
    → with_transport_by f (protocol_of p) (address.Ipv6 src) (address.Ipv6 dst) bytes ≡ f
extension-kept f p src dst bytes is =
    each-extension (λ q. with_transport_by f (protocol_of q) (address.Ipv6 src) (address.Ipv6 dst) bytes ≡ f) p is refl refl refl refl refl

pub cut-extension-kept : (f : FrameFields) (p : ℕ) (src dst bytes : List ℕ) → is_extension p ≡ true
    → cut_transport_by f (protocol_of p) (address.Ipv6 src) (address.Ipv6 dst) bytes ≡ f
cut-extension-kept f p src dst bytes is =
    each-extension (λ q. cut_transport_by f (protocol_of q) (address.Ipv6 src) (address.Ipv6 dst) bytes ≡ f) p is refl refl refl refl refl

-- ---- the fields

-- the protocol in the IP header stays
pub chain-protocol : (i : Ip) (o : Option Ipv6FragmentRepr) → (option_map_or (fragment_values i) o i).protocol ≡ i.protocol
chain-protocol i None = refl
chain-protocol i (Some v) = refl

-- the number of the reason of a fault, which is not that of "read"
abbrev number : ExtensionFault → ℕ
number why = reason_code (extension_reason why)

pub numbered : (why : ExtensionFault) → number why ≢ 0
numbered fault.TooShort = λ z. absurd (omega (arith, z))
numbered fault.HeaderCut = λ z. absurd (omega (arith, z))
numbered fault.HopsLeft = λ z. absurd (omega (arith, z))
numbered fault.BadOrder = λ z. absurd (omega (arith, z))

-- without a fault no reason is stored
pub no-fault : (o : Option ExtensionFault) (n : ℕ) → o ≡ None → option_map_or number o n ≡ n
no-fault o n none = ap (λ (p : Option ExtensionFault). option_map_or number p n) none

pub a-fault : (o : Option ExtensionFault) (why : ExtensionFault) (n : ℕ) → o ≡ Some why → option_map_or number o n ≡ number why
a-fault o why n is = ap (λ (p : Option ExtensionFault). option_map_or number p n) is

-- a packet is whole, unless there is the header of a fragment
pub no-part : (o : Option Ipv6FragmentRepr) → ((v : Ipv6FragmentRepr) → o ≡ Some v → is_part v ≡ false) → option_map_or (λ v. flag (is_part v)) o 0 ≡ 0
no-part None h = refl
no-part (Some v) h = ap flag (h v refl)

-- there is a value or none
pub given : {A : Type 0} (o : Option A) → (o ≡ None) ⊎ ((a : A) × (o ≡ Some a))
given None = inl refl
given (Some a) = inr (a, refl)
