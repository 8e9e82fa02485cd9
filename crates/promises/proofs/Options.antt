-- The options of a parsed segment.
use Rattle.std.proofs.Common.{◌≡◌, ◌∙◌, Bool, List, ℕ, ap, sym, subst}
use Rattle.std.specs.Prelude.{Err, IfOk, IsOkAnd, Ok, OnErr, Result}
use Rattle.ip_wire.specs.Tcp.{options_of}
use Rattle.ip_wire.specs.TcpItems.{IsOptionList, Item, sack_permitted_of, sack_ranges_of, segment_size_of}
use Rattle.ip_wire.specs.TcpRepr.{Reads, ReadsOptions, TcpHeader, header_of}
use Rattle.ip_wire.specs.TcpSummary.{HasNoList, Summarizes}
use Rattle.ip_wire.specs.declared.IpAddress.{IpAddress}
use Rattle.ip_wire.specs.declared.TcpOptionSummary.{TcpOptionSummary}
use Rattle.ip_wire.specs.declared.TcpRepr.{TcpRepr}

-- the bytes are at most one list of options
abbrev pub OneList : List ℕ → Type 0
OneList options = (items others : List Item) (tail left : List ℕ) → IsOptionList options items tail → IsOptionList options others left → (items ≡ others) × (tail ≡ left)

abbrev pub SameOptions : {E : Type 0} → TcpHeader → Result TcpOptionSummary E → Type 0
SameOptions v r = IsOkAnd r (λ s. (v.max_seg_size ≡ s.max_segment_size) × (v.sack_permitted ≡ s.sack_permitted) × (v.sack_ranges ≡ s.sack_ranges))

-- a header that was parsed has the options of their summary
same_options : {E : Type 0} (options : List ℕ) (v : TcpHeader) (r : Result TcpOptionSummary E) → ReadsOptions options v
    → IfOk r (Summarizes options) → OnErr r (HasNoList options) → OneList options → SameOptions v r
same_options options v (Ok s) reads (items, tail, list, is) none one =
    let same = (one reads.items items reads.tail tail reads.list list).0 in (
      reads.max_seg_size ∙ ap segment_size_of same ∙ sym (ap (λ (x : TcpOptionSummary). x.max_segment_size) is),
      reads.sack_permitted ∙ ap sack_permitted_of same ∙ sym (ap (λ (x : TcpOptionSummary). x.sack_permitted) is),
      reads.sack_ranges ∙ ap sack_ranges_of same ∙ sym (ap (λ (x : TcpOptionSummary). x.sack_ranges) is),
    )
same_options options v (Err e) reads ok none one = absurd (none reads.items reads.tail reads.list)

-- so has the value that `parse` returns
pub parsed_options : {E F : Type 0} (bytes options : List ℕ) (src dst : IpAddress) (verified : Bool) (p : Result TcpRepr F) (r : Result TcpOptionSummary E)
    → IfOk p (λ v. Reads bytes src dst verified (header_of v) v.payload.now)
    → IfOk r (Summarizes (options_of bytes)) → OnErr r (HasNoList (options_of bytes)) → options ≡ options_of bytes → OneList options
    → IfOk p (λ v. SameOptions (header_of v) r)
parsed_options bytes options src dst verified (Ok v) r read ok none e one =
    same_options (options_of bytes) (header_of v) r read.options ok none (subst OneList e one)
parsed_options bytes options src dst verified (Err e) r read ok none is one = tt
