-- Two fragments of one packet that come one after the other.
use Rattle.std.proofs.Common.{ℕ, ◌≡◌, ◌<◌, ◌≤◌, ◌∷◌, ◌∙◌, List, [], ap, arith, inl, inr, length, sym, subst}
use Rattle.app_fragment.specs.Datagram.{IsWhole}
use Rattle.app_fragment.specs.Parts.{IsOf}
use Rattle.app_fragment.specs.Partials.{Entry, Has, IsAlone, IsLiveOf, IsPlaceFor, IsReturned, Opens, Reassembles, Table, Takes, entry_at, expiry, partial_at}
use Rattle.app_fragment.specs.Partials.Reassembles.{alone, rejected, taken, too_long}
use Rattle.app_fragment.specs.declared.part.FragKey.{FragKey}
use Rattle.app_fragment.specs.declared.partials.Reassembled.{Reassembled}
use Rattle.app_fragment.specs.declared.partials.Reassembled.TheVariants as answer
use Rattle.app_fragment.proofs.Slots.{place-inside, place-unique}

-- ---- what an answer says

-- the call took a fragment with this answer
begins : (old new : Table) (now : ℕ) (link packet before after : List ℕ) (given : Reassembled) → Reassembles old new now link packet before after given
    → given ≡ answer.Incomplete → Takes old new now link packet before after answer.Incomplete
begins old new now link packet before after given (rejected a b c) e = cc
begins old new now link packet before after given (too_long key a b c d) e = cc
begins old new now link packet before after given (alone key a b c g returned) e = absurd (subst (IsReturned packet before after) e returned)
begins old new now link packet before after given (taken g t) e = subst (Takes old new now link packet before after) e t

completes : (old new : Table) (now len : ℕ) (link packet before after : List ℕ) (given : Reassembled) → ¬ IsAlone packet → Reassembles old new now link packet before after given
    → given ≡ answer.Whole len → Takes old new now link packet before after (answer.Whole len)
completes old new now len link packet before after given part (rejected a b c) e = cc
completes old new now len link packet before after given part (too_long key a b c d) e = cc
completes old new now len link packet before after given part (alone key a b c g returned) e = absurd (part b)
completes old new now len link packet before after given part (taken g t) e = subst (Takes old new now link packet before after) e t

same-key : (packet : List ℕ) (a b : FragKey) → IsOf a packet → IsOf b packet → a ≡ b
same-key packet a b x y = sym x.same ∙ y.same

-- ---- the entry between the calls

-- the entry that the first call began: it has one fragment, and is live later
record Began (t : Table) (later : ℕ) (key : FragKey) (packet : List ℕ) (i : ℕ) : Type 0 where
  pub live : IsLiveOf later key (partial_at t.partials i)
  pub has : Has (entry_at t i) (packet ∷ [])

began : (old new : Table) (now later : ℕ) (key : FragKey) (link packet before after : List ℕ) → IsOf key packet → later < expiry now
    → ((i : ℕ) → i < length old.partials → ¬ IsLiveOf now key (partial_at old.partials i))
    → (t : Takes old new now link packet before after answer.Incomplete) → Began new later key packet t.place
began old new now later key link packet before after of in_time none t = by t.adds.opens
  where
    same : t.key ≡ key
    same = same-key packet t.key key t.is.of of

    inside : t.place < length old.partials
    inside = place-inside old.partials now t.key t.place t.place_is

    by : Opens now t.key link (entry_at old t.place) t.adds.opened → Began new later key packet t.place
    by (inl (live, e)) = absurd (none t.place inside (subst (λ k. IsLiveOf now k (partial_at old.partials t.place)) same live))
    by (inr (new_one, b)) =
        let kept = t.adds.does.added.kept in
        let ends : (partial_at new.partials t.place).expires ≡ expiry now = kept.expires ∙ b.expires in
        record {
          live = record { live = omega (arith, ends, in_time); same = kept.key ∙ b.same ∙ same };
          has = t.adds.does.added.collected [] b.empty;
        }

-- no entry before it has the packet
found : (old new : Table) (now later : ℕ) (key : FragKey) (link packet before after : List ℕ) → now ≤ later → length new.partials ≡ length old.partials
    → ((i : ℕ) → i < length old.partials → ¬ IsLiveOf now key (partial_at old.partials i))
    → (t : Takes old new now link packet before after answer.Incomplete) → Began new later key packet t.place → IsPlaceFor new.partials later key t.place
found old new now later key link packet before after order long none t b =
    let inside = place-inside old.partials now t.key t.place t.place_is in
    inl (record {
      inside = omega (arith, inside, long);
      is = b.live;
      first = λ j low live.
          let stays : partial_at new.partials j ≡ partial_at old.partials j = ap (λ (e : Entry). e.partial) (t.others j (λ e. omega (arith, low, e))) in
          let there : IsLiveOf later key (partial_at old.partials j) = subst (IsLiveOf later key) stays live in
          none j (omega (arith, low, inside)) (record { live = omega (arith, there.live, order); same = there.same });
    })

-- the packet of the second call
pub two-fragments : (old between new : Table) (now later len : ℕ) (key : FragKey) (link other first second before middle after : List ℕ) (a b : Reassembled)
    → Reassembles old between now link first before middle a → Reassembles between new later other second middle after b → length between.partials ≡ length old.partials
    → a ≡ answer.Incomplete → b ≡ answer.Whole len → IsOf key first → IsOf key second → ¬ IsAlone second → now ≤ later → later < expiry now
    → ((i : ℕ) → i < length old.partials → ¬ IsLiveOf now key (partial_at old.partials i)) → IsWhole key (second ∷ first ∷ []) len after
two-fragments old between new now later len key link other first second before middle after a b one two long ea eb of of2 part order in_time none =
    by (sym (same-key second u.key key u.is.of of2)) u.adds.opens
  where
    t : Takes old between now link first before middle answer.Incomplete
    t = begins old between now link first before middle a one ea

    u : Takes between new later other second middle after (answer.Whole len)
    u = completes between new later len other second middle after b part two eb

    entry : Began between later key first t.place
    entry = began old between now later key link first before middle of in_time none t

    here : t.place ≡ u.place
    here = place-unique between.partials later key t.place u.place (found old between now later key link first before middle order long none t entry)
        (subst (λ k. IsPlaceFor between.partials later k u.place) (same-key second u.key key u.is.of of2) u.place_is)

    its : Began between later key first u.place
    its = subst (Began between later key first) here entry

    by : key ≡ u.key → Opens later u.key other (entry_at between u.place) u.adds.opened → IsWhole key (second ∷ first ∷ []) len after
    by e (inl (live, same)) =
        let at : u.adds.opened.partial.datagram.key ≡ key = ap (λ (x : Entry). x.partial.datagram.key) same ∙ live.same ∙ sym e in
        subst (λ k. IsWhole k (second ∷ first ∷ []) len after) at (u.adds.does.whole (first ∷ []) (subst (λ x. Has x (first ∷ [])) (sym same) its.has))
    by e (inr (dead, b)) = absurd (dead (subst (λ k. IsLiveOf later k (partial_at between.partials u.place)) e its.live))
