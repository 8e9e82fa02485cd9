-- `into_slice` borrows the bytes from `start` up to `end`. Assumes `Logic`.
use mathlib.Core.Path.{◌≡◌, refl, sym, ap, ◌∙◌}
use Prim.Native.Nat.{ℕ, ◌+◌, ◌-◌, ◌*◌, ◌≤◌, ◌<◌, ◌^◌}
use native.Mathlib.Omega.{arith}
use native.Mathlib.Nat.{mul-le-mul_right}
use mathlib.Core.List.{List, [], ◌∷◌, ◌++◌}
use lib.ListN.{length, take, drop as drop_list, take-append-drop, length-drop}
use seplogic.Ra.Ura.{Ura}
use mir.Syntax.{named}
use mir.Val.{Val}
use base.Logic.{SProp, ent}
use base.Fml.{Lft, Share, ftrue, flft}
use prog.Memory.{Memory}
use prog.Routine.{Routine}
use prog.Wp.{Env, Calls, Loops, WpFn}
use types.Logic.{Logic}
use contract.Monad.{Fun, fact}
use contract.Running.{tables}
use types.Kit.{‵, ◌⊛◌, raw, some, later, given, learn, at_ret, ◌$◌, ◌∵◌, !, qed, by, move, keep, split, split3, join, fsplit, fjoin, use1, use2, await, pick, rewrite, suffices, frame, updating, now, done}
use types.Part.{whole, sub, agg}
use types.Run.{stop, fld, hop, from, addr, bin, and_then, no_more, of_opd, first, blocks, exec, returns, enter}
use types.ByLocal.{alloc_all, pass_all, free_all, look_at, look_in_at, get, get_in, sets, sets_last, env}
use denote.Builtin.{u8}
use denote.Exit.{no}
use denote.Memory.{mem}
use denote.RattleType.{RattleType, owns}
use denote.Ref.{NamedLft}
use denote.Signature.{plain}
use denote.Slice.{MutSlice, Room, slice_val, mut_slice_vals}
use denote.Steps.{nothing, heard}
use denote.Struct.Laws as LL
use denote.Struct.Rest.{all_own, own_open}
use denote.Triple.Entry.{on_entry}
use denote.Triple.Walked.{says, Stays, stay_dropped, walk_of, ends_at}
use borrow.Table.Elements.{at, at_byte, length-take-le}
use Rattle.std.proofs.raw_atomic.Walks.{proved}
use Rattle.std.proofs.lemmas.List.{drop-drop}
use Rattle.net_base.proofs.Borrowed.{part_borrowed, borrows_part}
use Rattle.net_base.specs.declared.located.Located.{Located}
use Rattle.net_base.specs.contracts.located.Located as T
use Rattle.net_base.proofs.located.Located.TheLaws as T'
use Rattle.net_base.specs.contracts.located.Located.into_slice as f
use Rattle.net_base.proofs.located.Located.into_slice.Statement.{statement}
use Rattle.net_base.proofs.located.Located.into_slice.Code as code

abbrev life : Lft → NamedLft
life κ = record { mir = named 0; lft = κ }

abbrev row : Lft → RattleType
row κ = T.the_row (life κ)

abbrev vals : Located → List Val
vals x = T'.lowered x ∷ []

abbrev stayed : Stays f.ended.signature.params f.ended.kept
stayed = (stay_dropped (plain (λ κs. row κs.0)) no, tt)

module _ {M : Type 1} {𝓤 : Ura M} (𝓛 : Logic 𝓤) (at_mem : Memory → SProp 𝓤) (run : Routine → Fun 𝓤) (C : Calls 𝓤 𝓛.H) (Λ : Loops 𝓤 𝓛.H) (κ : Lft) (q : Share) (x : Located) where
  open 𝓛 use {H}

  abbrev bound : (walk_of 𝓛 f.ended stayed (f.clauses 𝓛 at_mem run)).Ghost
  bound = (((κ, tt), (q, tt), tt, (x, tt), (vals x, tt)), tt)

  abbrev Post : Val → SProp 𝓤
  Post = (walk_of 𝓛 f.ended stayed (f.clauses 𝓛 at_mem run)).post bound

  walk : Room u8 (length x.bytes.now) → x.start < 2 ^ 64 → x.end < 2 ^ 64 → x.start ≤ x.end → x.end ≤ length x.bytes.now
      → ent 𝓤 (on_entry 𝓛 f.signature (κ, tt) (q, tt) (x, tt) (vals x, tt)) (WpFn 𝓤 H C Λ code.function (vals x) Post)
  walk rm fi fj lo hi =
      let b : ℕ = x.bytes.ref_ptr.0 in let o : ℕ = x.bytes.ref_ptr.1 in let xs : List ℕ = x.bytes.now in let i : ℕ = x.start in let j : ℕ = x.end in
      let m : ℕ = j - i in let p : ℕ = i + o in
      let front : List ℕ = take i xs in let mid : List ℕ = take m (drop_list i xs) in let back : List ℕ = drop_list j xs in
      let lf : length front ≡ i = length-take-le i xs (omega arith) in
      let ld : length (drop_list i xs) ≡ length xs - i = length-drop i xs in
      let many : length mid ≡ m = length-take-le m (drop_list i xs) (omega arith) in
      let following : drop_list m (drop_list i xs) ≡ back = drop-drop m i xs ∙ ap (λ (k : ℕ). drop_list k xs) (omega arith) in
      let cut : xs ≡ front ++ (mid ++ back) = sym (take-append-drop i xs) ∙ ap (λ (l : List ℕ). front ++ l) (sym (take-append-drop m (drop_list i xs)) ∙ ap (λ (l : List ℕ). mid ++ l) following) in
      let on : at o (mem u8).size (length front) ≡ p = ap (at o (mem u8).size) lf ∙ at_byte o i in
      let fm : m < 2 ^ 64 = omega arith in
      let less : length mid * (mem u8).size ≤ length xs * (mem u8).size = mul-le-mul_right (mem u8).size (omega arith) in
      let all : length xs * (mem u8).size < 2 ^ 63 = rm.1 in
      let room : Room u8 (length mid) = (omega arith, omega arith) in
      qed 𝓛 ((‵ (flft κ q) ⊛ ‵ ftrue) ∷ ‵ (owns (row κ ∷ []) (x, tt) (vals x, tt)) ∷ []) ∵
      enter ! C Λ code.function (vals x) _ $
      alloc_all ! (λ l. pass_all ! refl ((tt, ((tt, (record { fits = rm.0 }, tt)), (record { fits = fi }, (record { fits = fj }, tt)))), tt) $
      let En : Env 𝓤 H = env code.function.locals l in
      first ! $ blocks ! $
      sets ! (addr ! (from ! (fld ! refl (fld ! refl (hop ! (look_in_at ! 1 (sub ! 0 refl (sub ! 0 refl (whole !)))) (stop !)))))) refl (tt, tt) $
      sets ! (of_opd ! (get_in ! (fld ! refl (stop !)) (sub ! 1 refl (whole !)))) refl (tt, record { fits = fi }) $
      sets ! (bin ! (get ! refl) (get ! refl) tt) refl (tt, tt) $
      sets ! (of_opd ! (get_in ! (fld ! refl (stop !)) (sub ! 2 refl (whole !)))) refl (tt, record { fits = fj }) $
      sets ! (of_opd ! (get_in ! (fld ! refl (stop !)) (sub ! 1 refl (whole !)))) refl (tt, record { fits = fi }) $
      sets ! (bin ! (get ! refl) (get ! refl) lo) refl (tt, record { fits = fm }) $
      sets_last ! (agg ! (and_then ! (get ! refl) (and_then ! (get ! refl) (no_more !)))) refl (tt, (tt, (record { fits = fm }, tt))) $
      exec ! C Λ En code.Mir.t-2 (at_ret En Post) $
      sets ! (of_opd ! (get ! refl)) refl (tt, (tt, (record { fits = fm }, tt))) $
      split ! $ move ! (2 ∷ []) $ fsplit ! $
      use1 𝓛 (given (vals x ≡ vals x) (‵ (all_own (T.the_type (life κ)).parts (T'.the_laws (life κ)) (x.bytes, (i, (j, tt))))))
      (own_open 𝓛 (T.the_type (life κ)) (T'.the_laws (life κ)) (x.bytes, (i, (j, tt))) (T'.lowered x)) $ learn ! (λ _. fsplit ! $
      move ! (0 ∷ 3 ∷ []) $ use2 𝓛 (later (some (part_borrowed 𝓛 (named 0) κ q b o x.bytes.ghost_name u8 xs front mid back cut p on room)))
      (borrows_part 𝓛 (named 0) κ q b o x.bytes.ghost_name u8 xs front mid back cut p on room (mut_slice_vals x.bytes)) $ await ! tt $ pick ! (λ δ.
      returns ! (look_at ! 0 refl) $ free_all ! refl $ keep ! (0 ∷ 3 ∷ []) $ split3 ! $
      rewrite ! 0 (λ (k : ℕ). ‵ ((MutSlice (named 0) κ u8).own_val (record { ref_ptr = (b, p); ghost_name = δ; now = mid }) (slice_val (b, p) k ∷ []))) many refl $
      suffices ! _ (ends_at 𝓛 f.ended stayed (f.clauses 𝓛 at_mem run) bound (slice_val (b, p) m) (record { ref_ptr = (b, p); ghost_name = δ; now = mid }) ((tt, tt), tt) (tt, tt)) $
      nothing ! $ nothing ! $ fjoin ! $ join ! $ move ! (1 ∷ 3 ∷ []) $ join ! $ join ! $ frame ! $ says ! refl $ done !)))

pub into_slice_spec : {M : Type 1} → statement M
into_slice_spec 𝓤 𝓛 𝓜 𝓡 wired =
    let 𝓣 = tables 𝓤 𝓛.H 𝓜 𝓡 𝓡.env in
    proved 𝓛 f.ended stayed (f.clauses 𝓛 𝓜.mem 𝓡.returns) 𝓜 𝓡 ((λ κs x w vs ok. qed 𝓛 (‵ ftrue ∷ []) ∵ updating ! $ nothing ! $ fjoin ! $ now ! $ done !), tt)
    f.Key.name code.function (code.unfolded 𝓤 𝓛.H 𝓜 𝓡 wired)
    (λ κs. (vals, tt)) (λ κs. ((T'.lowers (life κs.0)).val_is, tt))
    (λ κs qs bounds a n are.
    let known = LL.owed (T.the_type (life κs.0)) (T'.the_laws (life κs.0)) a.0 (vals a.0) are.0 in
    qed 𝓛 (raw (on_entry 𝓛 f.signature κs qs a (vals a.0, tt)) ∷ (raw (fact 𝓤 (a.0.start ≤ a.0.end)) ⊛ raw (fact 𝓤 (a.0.end ≤ length a.0.bytes.now))) ∷ []) ∵
    move ! (1 ∷ []) $ split ! $ heard ! _ (λ lo. heard ! _ (λ hi.
    by ! (walk 𝓛 𝓜.mem 𝓡.returns 𝓣.C 𝓣.Λ κs.0 qs.0 a.0 known.0.0.1 known.1.0.1 known.1.1.0.1 lo hi))))
