use Rattle.std.proofs.Common.{inl, inr, ◌≡◌, ◌+◌, ◌*◌, ◌<◌, ◌≤◌, ◌++◌, ℕ, List, length, get_or, take, drop, arith, refl}
use Rattle.app_fragment.specs.Fragments.{Fragment, HasBlock, end_of, fragment}
use Rattle.app_fragment.proofs.reassembly.put.Goals as goal
use Rattle.app_fragment.proofs.Steps.{Wrote, apart_each, copy_in, step_copy, step_new}
use Rattle.app_fragment.proofs.Agreeing.{range_same}
use Rattle.app_fragment.proofs.Ranges.{written_here, written_left, written_right}

wrote : (buffer received after marked : List ℕ) (f : Fragment) → 8 * f.first ≤ length buffer
    → ((i : ℕ) → HasBlock f i → get_or received i 0 ≡ 0) → ((i : ℕ) → HasBlock f i → get_or marked i 0 ≡ 1)
    → ((i : ℕ) → i < f.first → get_or marked i 0 ≡ get_or received i 0) → ((i : ℕ) → end_of f ≤ 8 * i → get_or marked i 0 ≡ get_or received i 0)
    → after ≡ take (8 * f.first) buffer ++ f.bytes ++ drop (8 * f.first + length f.bytes) buffer → Wrote buffer received after marked f
wrote buffer received after marked f fits fresh mark before after_it e = record {
  fresh = fresh;
  mark = mark;
  before = before;
  after_it = after_it;
  here = λ p h. rw e (written_here buffer f.bytes _ (8 * f.first) p fits h.0 h.1);
  left = λ p h. rw e (written_left buffer f.bytes _ (8 * f.first) p fits h);
  right = λ p h. rw e (written_right buffer f.bytes (8 * f.first) p fits h);
}

pub returns-in-New-clause-holds : goal.returns-in-New-clause-holds
returns-in-New-clause-holds c = λ ok more fs h.
    step_new _ _ _ _ (fragment c.args.first more c.args.bytes.now) fs
    (wrote c.args.buffer.now c.args.received.now c.place.new.buffer c.place.new.received (fragment c.args.first more c.args.bytes.now) (omega arith)
    (c.in-New.ensures.fresh refl) (c.in-New.ensures.marked refl) (c.in-New.ensures.before refl) (c.in-New.ensures.after refl) (c.in-New.ensures.written refl)) h

pub returns-in-Duplicate-clause-holds : goal.returns-in-Duplicate-clause-holds
returns-in-Duplicate-clause-holds c = λ ok more fs h.
    let f : Fragment = fragment c.args.first more c.args.bytes.now in
    let bytes : c.place.new.buffer ≡ c.args.buffer.now = c.in-Duplicate.ensures.kept_bytes (λ e. cc) in
    let blocks : c.place.new.received ≡ c.args.received.now = c.in-Duplicate.ensures.kept_received (λ e. cc) in
    rw (bytes, blocks) (step_copy c.args.buffer.now c.args.received.now f fs (copy_in c.args.buffer.now c.args.received.now f (c.in-Duplicate.ensures.all refl) (c.in-Duplicate.ensures.same refl)) h)

pub returns-in-Overlap-clause-other : goal.returns-in-Overlap-clause-other
returns-in-Overlap-clause-other c = λ e more is.
    c.in-Overlap.ensures.other refl is.blocks
    (range_same c.args.buffer.now c.args.received.now (fragment c.args.first more c.args.bytes.now) c.requires.room is)

pub returns-in-New-clause-apart : goal.returns-in-New-clause-apart
returns-in-New-clause-apart c = λ ok more fs h.
    inl (apart_each c.args.buffer.now c.args.received.now (fragment c.args.first more c.args.bytes.now) fs (c.in-New.ensures.fresh refl) h.all)

pub returns-in-Duplicate-clause-apart : goal.returns-in-Duplicate-clause-apart
returns-in-Duplicate-clause-apart c = λ ok more fs h.
    inr (copy_in c.args.buffer.now c.args.received.now (fragment c.args.first more c.args.bytes.now) (c.in-Duplicate.ensures.all refl) (c.in-Duplicate.ensures.same refl))
