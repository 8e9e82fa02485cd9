use Rattle.std.proofs.Common.{◌≡◌, ◌≢◌, ◌%◌, ◌<◌, ◌≤◌, ◌∷◌, ℕ, Bool, true, false, List, IsTrue, length, arith, refl, max, ◌∙◌, inl}
use Rattle.app_fragment.specs.Fragments.{Assembles, Each, Fragment, HasEnds, Holds, IsPartOf, end_of, fragment}
use Rattle.app_fragment.proofs.reassembly.insert.Goals as goal
use Rattle.app_fragment.proofs.EndSteps.{step_ends}
use Rattle.app_fragment.proofs.Agreeing.{no_conflict, found, high_below, len_of}
use Rattle.app_fragment.proofs.Complete.{complete_packet}

-- one more fragment, by what the parts of the body found out
assembled : (buffer received after marked : List ℕ) (len high n top : ℕ) (f : Fragment) (fs : List Fragment)
    → (Holds buffer received fs → Holds after marked (f ∷ fs))
    → (f.more ≡ true → n ≡ len) → (f.more ≡ false → n ≡ end_of f) → top ≡ max high (end_of f)
    → 0 < length f.bytes → (f.more ≡ true → length f.bytes % 8 ≡ 0)
    → (f.more ≡ true → len ≢ 0 → end_of f ≤ len) → (f.more ≡ false → len ≢ 0 → end_of f ≡ len) → (f.more ≡ false → high ≤ end_of f)
    → Assembles buffer received (record { len = len; high = high }) fs → Assembles after marked (record { len = n; high = top }) (f ∷ fs)
assembled buffer received after marked len high n top f fs put m l e filled blocks inner same above h = record {
  holds = put h.holds;
  reached = rw e (step_ends len high f fs n m l (record { filled = filled; blocks = blocks }) (record { inner = inner; same = same; above = above }) h.reached);
}

pub returns-then-is_complete-clause-assembled : goal.returns-then-is_complete-clause-assembled
returns-then-is_complete-clause-assembled c = λ kept fs h.
    assembled c.args.buffer.now c.args.received.now c.put.new.buffer c.put.new.received c.args.ends.now.len c.args.ends.now.high c.packet_len-len.result c.max-high.result
    (fragment c.args.first c.args.more c.args.bytes.now) fs (c.if-not-put.ensures.holds refl c.args.more fs)
    c.packet_len-len.ensures.more c.packet_len-len.ensures.last c.max-high.ensures
    (c.if-not-is_shaped.ensures.filled refl) (c.if-not-is_shaped.ensures.blocks refl)
    (c.if-not-end_fits.ensures.more refl) (c.if-not-end_fits.ensures.same refl) (c.if-not-end_fits.ensures.above refl) h

pub returns-else-is_complete-clause-assembled : goal.returns-else-is_complete-clause-assembled
returns-else-is_complete-clause-assembled c = λ kept fs h.
    assembled c.args.buffer.now c.args.received.now c.put.new.buffer c.put.new.received c.args.ends.now.len c.args.ends.now.high c.packet_len-len.result c.max-high.result
    (fragment c.args.first c.args.more c.args.bytes.now) fs (c.if-not-put.ensures.holds refl c.args.more fs)
    c.packet_len-len.ensures.more c.packet_len-len.ensures.last c.max-high.ensures
    (c.if-not-is_shaped.ensures.filled refl) (c.if-not-is_shaped.ensures.blocks refl)
    (c.if-not-end_fits.ensures.more refl) (c.if-not-end_fits.ensures.same refl) (c.if-not-end_fits.ensures.above refl) h

pub returns-then-is_complete-clause-complete : goal.returns-then-is_complete-clause-complete
returns-then-is_complete-clause-complete c = λ whole fs h.
    let f : Fragment = fragment c.args.first c.args.more c.args.bytes.now in
    let with : Assembles c.put.new.buffer c.put.new.received (record { len = c.packet_len-len.result; high = c.max-high.result }) (f ∷ fs) =
    assembled c.args.buffer.now c.args.received.now c.put.new.buffer c.put.new.received c.args.ends.now.len c.args.ends.now.high c.packet_len-len.result c.max-high.result
    f fs (c.if-not-put.ensures.holds refl c.args.more fs)
    c.packet_len-len.ensures.more c.packet_len-len.ensures.last c.max-high.ensures
    (c.if-not-is_shaped.ensures.filled refl) (c.if-not-is_shaped.ensures.blocks refl)
    (c.if-not-end_fits.ensures.more refl) (c.if-not-end_fits.ensures.same refl) (c.if-not-end_fits.ensures.above refl) h in
    let same_len : length c.put.new.buffer ≡ length c.args.buffer.now = c.put.auto.buffer in
    complete_packet c.put.new.buffer c.put.new.received c.packet_len-len.result c.max-high.result (f ∷ fs) (omega arith) with
    (c.if-is_complete.ensures.some refl) (c.if-is_complete.ensures.all refl)

pub returns-then-not-put-clause-conflict : goal.returns-then-not-put-clause-conflict
returns-then-not-put-clause-conflict c = λ conflict fs h agree.
    no_conflict c.args.buffer.now c.args.received.now (fragment c.args.first c.args.more c.args.bytes.now) fs h.holds agree.3
    (c.if-not-put.ensures.some refl c.args.more) (c.if-not-put.ensures.other refl c.args.more)

-- a fragment that agrees ends where it may
may_end : (len high : ℕ) (f : Fragment) (fs : List Fragment) (packet : List ℕ) (more : Bool) → f.more ≡ more → HasEnds len high fs → IsPartOf f packet
    → Each (λ g. IsPartOf g packet) fs
    → ((more ≡ true → len ≢ 0 → end_of f ≤ len) → (more ≡ false → len ≢ 0 → end_of f ≡ len) → (more ≡ false → high ≤ end_of f) → ⊥) → ⊥
may_end len high f fs packet more is ends part parts refuse = refuse
    (λ m nz. let same : length packet ≡ len = len_of len high fs packet ends parts nz in let low : end_of f ≤ length packet = part.fits.inside in omega arith)
    (λ m nz. part.fits.last (is ∙ m) ∙ len_of len high fs packet ends parts nz)
    (λ m. let top : high ≤ length packet = high_below len high fs packet ends parts in let at : end_of f ≡ length packet = part.fits.last (is ∙ m) in omega arith)

pub returns-then-not-end_fits-clause-conflict : goal.returns-then-not-end_fits-clause-conflict
returns-then-not-end_fits-clause-conflict c = λ conflict fs h agree.
    may_end c.args.ends.now.len c.args.ends.now.high (fragment c.args.first c.args.more c.args.bytes.now) fs agree.0 c.args.more refl h.reached agree.1 agree.2
    (λ a b d. let bad : IsTrue false = c.if-not-end_fits.ensures.all a b d in cc)

pub returns-else-is_complete-clause-missing : goal.returns-else-is_complete-clause-missing
returns-else-is_complete-clause-missing c = λ kept fs h packet make.
    let with : Assembles c.put.new.buffer c.put.new.received (record { len = c.packet_len-len.result; high = c.max-high.result }) ((fragment c.args.first c.args.more c.args.bytes.now) ∷ fs) =
    returns-else-is_complete-clause-assembled c (inl refl) fs h in
    found c.put.new.buffer c.put.new.received c.packet_len-len.result c.max-high.result ((fragment c.args.first c.args.more c.args.bytes.now) ∷ fs) packet with.holds with.reached make
    (c.if-is_complete.ensures.missing refl)

pub returns-then-is_complete-clause-apart : goal.returns-then-is_complete-clause-apart
returns-then-is_complete-clause-apart c = λ kept fs h. c.if-not-put.ensures.apart refl c.args.more fs h.holds

pub returns-else-is_complete-clause-apart : goal.returns-else-is_complete-clause-apart
returns-else-is_complete-clause-apart c = λ kept fs h. c.if-not-put.ensures.apart refl c.args.more fs h.holds
