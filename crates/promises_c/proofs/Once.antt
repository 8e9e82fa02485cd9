-- Calls with equal arguments return the same, and store the same.
use Rattle.std.proofs.Common.{ℕ, ℤ, pos, negsuc, ◌≡◌, ◌∙◌, ◌+◌, ◌-◌, ◌%◌, ◌^◌, ◌≤◌, ◌<◌, ◌↔◌, true, Option, List, inl, inr, length, take, ap, arith, subst, sym, w32}
use Rattle.std.proofs.lemmas.Bool.{cases_lt}
use Rattle.std.proofs.lemmas.Int.{of_z-to_z}
use Rattle.std.proofs.lemmas.List.{length-take-le}
use Rattle.ip_wire.proofs.OptionLists.{one_list}
use Rattle.ip_wire.proofs.ReadsOnce.{computed-one, frame-once}
use Rattle.ip_wire.specs.Frame as transport
use Rattle.ip_wire.specs.Frame.{all_checked, packet}
use Rattle.ip_wire.specs.Read.{ReadsEthernet}
use Rattle.ip_wire.specs.Tcp.{options_of}
use Rattle.ip_wire.specs.TcpItems.{Item}
use Rattle.ip_wire.specs.TcpRepr.{seq_of}
use Rattle.ip_wire.specs.TcpSeq.{IsAfter, IsBefore, distance, number}
use Rattle.ip_wire.specs.Types.{EthernetAddress, IpRepr, Ipv4, Ipv6}
use Rattle.wire_icmp.proofs.NdiscComputed.{ndisc_of_Reads}
use Rattle.wire_icmp.specs.Ndisc as ndisc
use Rattle.wire_icmp.specs.declared.NdiscRepr.{NdiscRepr}
use Rattle.ip_wire.proofs.Readers.{hex_text_once}
use Rattle.c_icmp.specs.Neighbours.{CarriesNdisc, ReadsNdisc}
pub use Rattle.ip_wire.proofs.EndTexts.{address_once, cidr_once}
pub use Rattle.c_routing.proofs.Tables.{usable-itself as short_len}
pub use Rattle.c_structs.proofs.Filled.{within-is as short_bytes}
use Rattle.c_structs.proofs.WrittenOnce.{writes-once}
use Rattle.c_read.specs.TcpOptions.{ReadsItems}
use Rattle.c_structs.specs.Written.{IsRead, Writes, max_len, within}
use Rattle.c_structs.specs.declared.failures.Failure.{Failure}

-- ---- what is written

pub writes_result : (bytes : Option (List ℕ)) (why : Option Failure) (old same new other : List ℕ) (a b : ℤ) → old ≡ same → Writes bytes why old new a
    → Writes bytes why same other b → a ≡ b
writes_result bytes why old same new other a b e v w =
    (writes-once bytes why same new other a b (subst (λ o. Writes bytes why o new a) e v) w).0

pub writes_bytes : (bytes : Option (List ℕ)) (why : Option Failure) (old same new other : List ℕ) (a b : ℤ) → old ≡ same → Writes bytes why old new a
    → Writes bytes why same other b → new ≡ other
writes_bytes bytes why old same new other a b e v w =
    (writes-once bytes why same new other a b (subst (λ o. Writes bytes why o new a) e v) w).1

-- ---- values that are parsed

pub one_ethernet : (text : List ℕ) (v w : EthernetAddress) → ReadsEthernet text v → ReadsEthernet text w → v ≡ w
one_ethernet text v w a b = λ i. record { 0 = hex_text_once text v.0 w.0 a b i }

pub one_options : (header : List ℕ) (xs ys : List Item) → ReadsItems header xs → ReadsItems header ys → xs ≡ ys
one_options header xs ys a b = (one_list (options_of header) xs ys a.tail b.tail a.list b.list).0

carried-once : (ip : IpRepr) (message : List ℕ) (v w : NdiscRepr) → CarriesNdisc ip message v → CarriesNdisc ip message w → v ≡ w
carried-once (Ipv4 ip) message v w a b = absurd a
carried-once (Ipv6 ip) message v w (_, a) (_, b) =
    computed-one (ndisc.ndisc_of ip.src_addr ip.dst_addr ip.hop_limit true message) v w
    ((ndisc_of_Reads ip.src_addr ip.dst_addr ip.hop_limit true message v).1 a) ((ndisc_of_Reads ip.src_addr ip.dst_addr ip.hop_limit true message w).1 b)

pub one_ndisc : (frame : List ℕ) (v w : NdiscRepr) → ReadsNdisc frame v → ReadsNdisc frame w → v ≡ w
one_ndisc frame v w a b =
    let same : packet a.ip (transport.other a.message) ≡ packet b.ip (transport.other b.message) = (frame-once all_checked frame _ _ _ _ a.reads b.reads).1 in
    let ip : a.ip ≡ b.ip = cc in
    let message : a.message ≡ b.message = cc in
    carried-once b.ip b.message v w (subst (λ m. CarriesNdisc b.ip m v) message (subst (λ h. CarriesNdisc h a.message v) ip a.carries)) b.carries

-- what is returned and stored for a text that parses as at most one value
pub read_once : {V A : Type 0} (Reads : List ℕ → V → Type 0) (stored : V → A) (text : List ℕ) (old same new other : A) (a b : ℤ)
    → ((text : List ℕ) (v w : V) → Reads text v → Reads text w → v ≡ w) → old ≡ same → IsRead Reads stored text old new a → IsRead Reads stored text same other b
    → (a ≡ b) × (new ≡ other)
read_once Reads stored text old same new other a b one e (inl (is, (v, reads, at))) (inl (also, (w, again, here))) =
    (is ∙ sym also, at ∙ ap stored (one text v w reads again) ∙ sym here)
read_once Reads stored text old same new other a b one e (inl (is, (v, reads, at))) (inr (zero, stays, never)) = absurd (never v reads)
read_once Reads stored text old same new other a b one e (inr (zero, stays, never)) (inl (also, (w, again, here))) = absurd (never w again)
read_once Reads stored text old same new other a b one e (inr (zero, stays, never)) (inr (also, kept, none)) = (zero ∙ sym also, stays ∙ e ∙ sym kept)

-- ---- lengths

pub short_front : (bytes : List ℕ) (len : ℕ) → len ≤ length bytes → length bytes ≤ max_len → within (take len bytes) ≡ take len bytes
short_front bytes len part fits = short_bytes (take len bytes) (omega (arith, length-take-le len bytes part, part, fits))

-- ---- sequence numbers

number-of : (a : ℕ) → a < 2 ^ 32 → number (seq_of a) ≡ a
number-of a fits = of_z-to_z w32 a fits

-- numbers at distance 0 are equal
no-distance : (a b : ℕ) → a < 2 ^ 32 → b < 2 ^ 32 → (a + (2 ^ 32 - b)) % 2 ^ 32 ≡ 0 → a ≡ b
no-distance a b small less none = omega (arith, small, less, none)

pub record Compares (a b : ℕ) (answer : ℤ) : Type 0 where
  pub before : (answer ≡ negsuc 0) ↔ IsBefore (seq_of a) (seq_of b)
  pub same : (answer ≡ pos 0) ↔ (a ≡ b)
  pub after : (answer ≡ pos 1) ↔ IsAfter (seq_of a) (seq_of b)

pub compared : (a b : ℕ) (r s : ℤ) → a < 2 ^ 32 → b < 2 ^ 32 → Compares a b r → Compares a b s → r ≡ s
compared a b r s small less v w = elim (cases_lt (distance (seq_of a) (seq_of b)) (2 ^ 31)) [
  | inr far ↦ v.before.1 far ∙ sym (w.before.1 far)
  | inl near ↦ elim (cases_lt 0 (distance (seq_of a) (seq_of b))) [
    | inl some ↦ v.after.1 (some, near) ∙ sym (w.after.1 (some, near))
    | inr none ↦
        let numbers : (a + (2 ^ 32 - b)) % 2 ^ 32 ≡ distance (seq_of a) (seq_of b) =
        λ i. (sym (number-of a small) i + (2 ^ 32 - sym (number-of b less) i)) % 2 ^ 32 in
        let same = no-distance a b small less (omega (arith, numbers, none)) in
        v.same.1 same ∙ sym (w.same.1 same)
  ]
]
