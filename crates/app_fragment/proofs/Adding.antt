-- One more fragment in the memory of a packet.
use Rattle.std.proofs.Common.{ℕ, ◌≡◌, ◌≢◌, ◌↔◌, ◌≤◌, ◌<◌, ◌+◌, ◌%◌, ◌⊎◌, Bool, true, false, List, ◌∷◌, length, take, refl, sym, ap, subst, ◌∙◌, arith}
use Rattle.app_fragment.proofs.Collected.{both, ends_at, not_header, too_long, with_ecn, with_header}
use Rattle.app_fragment.proofs.Versions.{laid}
use Rattle.app_fragment.specs.Datagram.{Collects, EachPacket, HasHeader, IsMixed, IsTooLong, fragments_of}
use Rattle.app_fragment.specs.Fragments.{Assembles, Fragment, IsShaped, end_of, fragment}
use Rattle.app_fragment.specs.Parts.{IsOf, Reads, counted_len, fragment_of, part_header_len}
use Rattle.app_fragment.specs.declared.datagram.Datagram.{Datagram}
use Rattle.app_fragment.specs.declared.part.FragKey.{FragKey}
use Rattle.app_fragment.specs.declared.part.Part.{Part}

-- the fragment as it was parsed
abbrev pub parsed : Part → Fragment
parsed part = fragment part.first part.more part.payload.now

-- the packet is of this datagram
pub is_of : (key : FragKey) (packet : List ℕ) (part : Part) → Reads packet part → part.key ≡ key → IsOf key packet
is_of key packet part r same = record { valid = r.valid.valid; same = r.valid.same ∙ same }

-- the header that would be stored
pub record HasNext (old new : List ℕ) (part : Part) : Type 0 where
  pub long : length new ≡ 60
  pub stored : part.first ≡ 0 → part_header_len old ≡ 0 → take (length part.header.now) new ≡ part.header.now
  pub other : (part.first ≢ 0) ⊎ (part_header_len old ≢ 0) → new ≡ old

pub next_header : (old new packet : List ℕ) (part : Part) (ps : List (List ℕ)) → Reads packet part → HasNext old new part → HasHeader old ps → HasHeader new (packet ∷ ps)
next_header old new packet part ps r n has =
    with_header old new packet part.first ps n.long (laid packet r.valid.valid) (ap (λ f. f.first) r.fragment)
    (λ z none. ap (λ h. take (length h) new) (sym r.header) ∙ n.stored z none ∙ r.header) n.other has

-- the codepoints with one more packet
pub record HasEcn (d e : Datagram) (ecn : ℕ) : Type 0 where
  pub ce : (e.ce ≢ 0) ↔ ((d.ce ≢ 0) ⊎ (ecn ≡ 3))
  pub not_ect : (e.not_ect ≢ 0) ↔ ((d.not_ect ≢ 0) ⊎ (ecn ≡ 0))

abbrev pub WouldMix : Datagram → ℕ → Type 0
WouldMix d ecn = ((d.ce ≢ 0) ⊎ (ecn ≡ 3)) × ((d.not_ect ≢ 0) ⊎ (ecn ≡ 0))

pub mixed : (d : Datagram) (buffer received packet : List ℕ) (part : Part) (ps : List (List ℕ)) → Reads packet part → Collects d buffer received ps → WouldMix d part.ecn ↔ IsMixed (packet ∷ ps)
mixed d buffer received packet part ps r h =
    let ce = with_ecn 3 d.ce part.ecn packet ps r.ecn h.ce in
    let not = with_ecn 0 d.not_ect part.ecn packet ps r.ecn h.not_ect in
    (λ m. (ce.0 m.0, not.0 m.1), λ m. (ce.1 m.0, not.1 m.1))

-- what `insert` leaves
pub record HasMore (d e : Datagram) (buffer received after marked next : List ℕ) (part : Part) : Type 0 where
  pub key : e.key ≡ d.key
  pub header : e.header ≡ next
  pub ecn : HasEcn d e part.ecn
  pub within : e.ends.len ≤ length after
  pub same : length after ≡ length buffer
  pub inside : end_of (parsed part) ≤ length buffer
  pub fits : counted_len next + e.ends.len ≤ 65535
  pub unmixed : ¬ WouldMix d part.ecn
  pub assembles : (fs : List Fragment) → Assembles buffer received d.ends fs → Assembles after marked e.ends (parsed part ∷ fs)

each-within : (ps : List (List ℕ)) (a b : ℕ) → a ≡ b → EachPacket (λ p. end_of (fragment_of p) ≤ b) ps → EachPacket (λ p. end_of (fragment_of p) ≤ a) ps
each-within ps a b e all = subst (λ n. EachPacket (λ p. end_of (fragment_of p) ≤ n) ps) (sym e) all

pub collected : (d e : Datagram) (buffer received after marked header packet : List ℕ) (part : Part) (ps : List (List ℕ)) → Reads packet part → part.key ≡ d.key → HasNext d.header header part
    → HasMore d e buffer received after marked header part → Collects d buffer received ps → Collects e after marked (packet ∷ ps)
collected d e buffer received after marked header packet part ps r same n m h = record {
  all = subst (λ k. EachPacket (IsOf k) (packet ∷ ps)) (sym m.key) (is_of d.key packet part r same, h.all);
  assembles = subst (λ f. Assembles after marked e.ends (f ∷ fragments_of ps)) r.fragment (m.assembles (fragments_of ps) h.assembles);
  header = subst (λ l. HasHeader l (packet ∷ ps)) (sym m.header) (next_header d.header header packet part ps r n h.header);
  within = m.within;
  inside = (subst (λ f. end_of f ≤ length after) r.fragment (omega (arith, m.inside, m.same)), each-within ps (length after) (length buffer) m.same h.inside);
  fits = omega (arith, ap counted_len m.header, m.fits);
  ce = both m.ecn.ce (with_ecn 3 d.ce part.ecn packet ps r.ecn h.ce);
  not_ect = both m.ecn.not_ect (with_ecn 0 d.not_ect part.ecn packet ps r.ecn h.not_ect);
  unmixed = λ bad. m.unmixed ((mixed d buffer received packet part ps r h).1 bad);
}

-- why `insert` returns a conflict before it adds the fragment
pub too_long_with : (d : Datagram) (buffer received header packet : List ℕ) (part : Part) (ps : List (List ℕ)) (len : ℕ) → Reads packet part → part.key ≡ d.key → HasNext d.header header part
    → (part.more ≡ true → len ≡ d.ends.len) → (part.more ≡ false → len ≡ end_of (parsed part)) → 65535 < counted_len header + len → Collects d buffer received ps → IsTooLong (packet ∷ ps)
too_long_with d buffer received header packet part ps len r same n inner last high h =
    too_long header d.key (packet ∷ ps) len n.long (is_of d.key packet part r same, h.all) (next_header d.header header packet part ps r n h.header) high
    (ends_at d buffer received packet ps len part.more (sym (ap (λ f. f.more) r.fragment)) h
    (λ z. not_header header len high z)
    inner (λ e. last e ∙ ap end_of r.fragment))

-- the packet is a fragment of the key, which fits
pub valid_for : (key : FragKey) (packet : List ℕ) (part : Part) (room : ℕ) → Reads packet part → part.key ≡ key → IsShaped (parsed part) → end_of (parsed part) ≤ room
    → IsOf key packet × IsShaped (fragment_of packet) × (end_of (fragment_of packet) ≤ room)
valid_for key packet part room r same shaped fits =
    (is_of key packet part r same, subst IsShaped r.fragment shaped, subst (λ f. end_of f ≤ room) r.fragment fits)

-- the end of the last fragment is the one that was computed before
pub same_len : (more : Bool) (len old new end : ℕ) → (more ≡ true → len ≡ old) → (more ≡ false → len ≡ end) → (more ≡ true → new ≡ old) × (more ≡ false → new ≡ end) → new ≡ len
same_len true len old new end inner last is = is.0 refl ∙ sym (inner refl)
same_len false len old new end inner last is = is.1 refl ∙ sym (last refl)

pub by_shape : (f : Fragment) → IsShaped f → (0 < length f.bytes → (f.more ≡ true → length f.bytes % 8 ≡ 0) → ⊥) → ⊥
by_shape f s refuse = refuse s.filled s.blocks
