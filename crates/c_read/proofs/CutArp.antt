-- The struct of an ARP packet that was not captured as a whole.
use Rattle.std.proofs.Common.{ℕ, ◌≡◌, ◌∙◌, ◌≤◌, ◌<◌, inl, inr, ◌+◌, ◌&&◌, bytes_eq, nat_le, if◌then◌else◌, Bool, List, ◌++◌, Some, None, ap, length, refl, sym, take, arith}
use Rattle.std.proofs.lemmas.Bool.{cases_lt}
use Rattle.std.proofs.lemmas.List.{take-append-le}
use Rattle.ip_wire.specs.Arp as arp
use Rattle.ip_wire.specs.Arp.{arp_of}
use Rattle.ip_wire.specs.Types.{ArpRepr}
use Rattle.ip_wire.specs.declared.ArpRepr.TheVariants.{EthernetIpv4}
use Rattle.c_structs.specs.declared.codes.Reason.TheVariants as reason
use Rattle.c_structs.specs.declared.types.FrameFields.{FrameFields}
use Rattle.c_read.proofs.CutBytes.{field-front, le-false, le-true, longer, lt-false, lt-true, range-front}
use Rattle.c_read.proofs.CutOf.{IsNext, IsStart, choice-has, cut-as, cut-network, nothing-follows, rejected-next, same-of, start-network, start-rejected, start-transport, stored-next}
use Rattle.c_read.specs.Captured.{IsCutOf, cut_arp, cut_header}
use Rattle.c_read.specs.FrameFields.{arp_fault, rejected, with_arp, with_message}

arp_of-by : (bytes : List ℕ) → arp_of bytes ≡ (if nat_le 28 (length bytes) && bytes_eq (take 6 bytes) arp.ethernet_ipv4 then Some (arp.value_of bytes) else None)
unfolding arp_of
arp_of-by bytes = refl

value-front : (bytes rest : List ℕ) → 28 ≤ length bytes → arp.value_of (bytes ++ rest) ≡ arp.value_of bytes
value-front bytes rest h =
    rw (
      field-front bytes rest 48 16 (omega (arith, h)),
      range-front bytes rest 8 14 (omega arith) (omega (arith, h)),
      range-front bytes rest 14 18 (omega arith) (omega (arith, h)),
      range-front bytes rest 18 24 (omega arith) (omega (arith, h)),
      range-front bytes rest 24 28 (omega arith) (omega (arith, h)),
    ) refl

arp-front : (f : FrameFields) (bytes rest : List ℕ) → 28 ≤ length bytes → with_arp f bytes ≡ with_arp f (bytes ++ rest)
arp-front f bytes rest h =
    let all = bytes ++ rest in
    let size = longer bytes rest in
    let found : arp_of all ≡ arp_of bytes = rw (
      arp_of-by all,
      arp_of-by bytes,
      le-true 28 (length all) (omega (arith, size, h)),
      le-true 28 (length bytes) h,
      take-append-le 6 bytes rest (omega (arith, h)),
      value-front bytes rest h,
    ) refl in
    rw (found, lt-false (length all) 28 (omega (arith, size, h)), lt-false (length bytes) 28 h) refl

arp-short : (f : FrameFields) (bytes : List ℕ) → length bytes < 28 → with_arp f bytes ≡ rejected f reason.TooShort
arp-short f bytes h =
    let none : arp_of bytes ≡ None = rw (arp_of-by bytes, le-false 28 (length bytes) h) refl in
    rw (none, lt-true (length bytes) 28 h) refl

-- the packet that is stored
message-next : (f : FrameFields) (v : ArpRepr) (len : ℕ) → IsStart f → len ≤ 28 → IsNext f (with_message f v) len
message-next f (EthernetIpv4 operation source_hardware source_protocol target_hardware target_protocol) len start fits =
    let next = with_message f (EthernetIpv4 operation source_hardware source_protocol target_hardware target_protocol) in
    stored-next f next next len 28 (nothing-follows next reason.TooShort (start-transport f start) (start-rejected f start)).0 refl refl refl refl fits

pub arp-next : (f : FrameFields) (bytes : List ℕ) (len : ℕ) → IsStart f → len ≤ f.payload_len → len ≤ 28 → IsNext f (with_arp f bytes) len
arp-next f bytes len start fits few =
    choice-has (λ g. IsNext f g len) (arp_of bytes) (with_message f) (rejected f (arp_fault bytes)) (λ v. message-next f v len start few)
    (rejected-next f (arp_fault bytes) len (start-network f start) fits)

pub cut-arp : (n : ℕ) (f : FrameFields) (bytes rest : List ℕ) → IsStart f → f.payload_len ≡ length (bytes ++ rest) → n ≡ f.payload_offset + length bytes
    → IsCutOf n (cut_arp f bytes) (with_arp f (bytes ++ rest))
cut-arp n f bytes rest start len place =
    let all = bytes ++ rest in
    elim (cases_lt (length bytes) 28) [
      | inr h ↦ same-of _ _ (ap (λ (b : Bool). if b then cut_header f 28 else with_arp f bytes) (lt-false (length bytes) 28 h) ∙ arp-front f bytes rest h)
      | inl few ↦
          let cut = ap (λ (b : Bool). if b then cut_header f 28 else with_arp f bytes) (lt-true (length bytes) 28 few) in
          elim (cases_lt (length all) 28) [
            | inl none ↦
                same-of _ _ (cut ∙ ap (λ (b : Bool). rejected f (if b then reason.TooShort else reason.HeaderCut)) (lt-true f.payload_len 28 (omega (arith, none, len))) ∙ sym (arp-short f all none))
            | inr there ↦
                cut-as _ _ _ _ (cut ∙ ap (λ (b : Bool). rejected f (if b then reason.TooShort else reason.HeaderCut)) (lt-false f.payload_len 28 (omega (arith, there, len)))) refl
                (cut-network n f (with_arp f all) 28 start (arp-next f all 28 start (omega (arith, there, len)) (omega arith)) (omega (arith, place, few)))
          ]
    ]
