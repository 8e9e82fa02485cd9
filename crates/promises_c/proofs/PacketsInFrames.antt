-- A packet is what its frame has after the Ethernet header.
use Rattle.std.proofs.Common.{ℕ, ℤ, pos, negsuc, ◌≡◌, ◌∙◌, ◌+◌, ◌≤◌, ◌<◌, ◌++◌, List, Option, Some, None, inl, inr, append_assoc, drop, length, length-append, ap, arith, sym}
use Rattle.std.proofs.lemmas.Bool.{cases_lt}
use Rattle.std.proofs.Math.Seq.{drop-append_seam}
use Rattle.std.proofs.lemmas.List.{drop-drop}
use Rattle.c_write.proofs.Framed.{length-link}
use Rattle.c_write.specs.Frames.{framed, packet_link}
use Rattle.c_structs.specs.Written.{Writes, failed_by, max_len}
use Rattle.c_structs.specs.declared.failures.Failure.{Failure}
use Rattle.c_structs.specs.declared.types.FrameFields.{FrameFields}

-- what both calls write and return
pub record InFrame (packet_new frame_new : List ℕ) (packet_len frame_len : ℤ) : Type 0 where
  pub written : drop 14 frame_new ≡ packet_new
  pub returned : (n : ℕ) → packet_len ≡ pos n → frame_len ≡ pos (14 + n)
  pub failed : (n : ℕ) → packet_len ≡ negsuc n → frame_len ≡ negsuc n

-- a failure is no length
no-length : {T : Type 0} (why : Option Failure) (answer : ℤ) (n : ℕ) → answer ≡ failed_by why → answer ≡ pos n → T
no-length why answer n is some = absurd (let no = sym is ∙ some in cc)

both-fail : (why : Option Failure) (old new frame_old frame_new : List ℕ) (a b : ℤ) → drop 14 frame_old ≡ old → (a ≡ failed_by why) × (new ≡ old)
    → (b ≡ failed_by why) × (frame_new ≡ frame_old) → InFrame new frame_new a b
both-fail why old new frame_old frame_new a b rest (is, same) (also, kept) = record {
  written = ap (drop 14) kept ∙ rest ∙ sym same;
  returned = λ n some. no-length why a n is some;
  failed = λ n none. also ∙ sym is ∙ none;
}

-- what follows a header of 14 bytes
following : (header bytes old rest new frame : List ℕ) → length header ≡ 14 → drop 14 old ≡ rest → new ≡ bytes ++ drop (length bytes) rest
    → frame ≡ (header ++ bytes) ++ drop (length (header ++ bytes)) old → drop 14 frame ≡ new
following header bytes old rest new frame len is same framed_too =
    let whole = length-append header bytes in
    let size : length (header ++ bytes) ≡ 14 + length bytes = omega (arith, whole, len) in
    let after : drop (length (header ++ bytes)) old ≡ drop (length bytes) rest =
    ap (λ n. drop n old) size ∙ sym (drop-drop (length bytes) 14 old) ∙ ap (λ s. drop (length bytes) s) is in
    let frame_is : frame ≡ header ++ new =
    framed_too ∙ ap (λ s. (header ++ bytes) ++ s) after ∙ append_assoc header bytes (drop (length bytes) rest) ∙ ap (λ s. header ++ s) (sym same) in
    ap (λ s. drop 14 s) frame_is ∙ ap (λ n. drop n (header ++ new)) (sym len) ∙ drop-append_seam header new

counted : (header bytes : List ℕ) (n : ℕ) → length header ≡ 14 → pos (length bytes) ≡ pos n → pos (length (header ++ bytes)) ≡ pos (14 + n)
counted header bytes n len e =
    let whole = length-append header bytes in
    let count : length bytes ≡ n = cc in
    ap pos (omega (arith, whole, len, count))

pub in-frame : (f : FrameFields) (packet : Option (List ℕ)) (why : Option Failure) (old new frame_old frame_new : List ℕ) (a b : ℤ)
    → length f.ethernet.src ≡ 6 → length f.ethernet.dst ≡ 6 → length frame_old ≡ 14 + length old → length frame_old ≤ max_len → drop 14 frame_old ≡ old
    → Writes packet why old new a → Writes (framed f packet) why frame_old frame_new b → InFrame new frame_new a b
in-frame f None why old new frame_old frame_new a b src dst room most rest wrote framed_too = both-fail why old new frame_old frame_new a b rest wrote framed_too
in-frame f (Some bytes) why old new frame_old frame_new a b src dst room most rest wrote framed_too =
    let link = length-link f src dst in
    let whole = length-append (packet_link f) bytes in
    elim (cases_lt (length old) (length bytes)) [
      | inl short ↦
          both-fail why old new frame_old frame_new a b rest (wrote.no_room (inl short)) (framed_too.no_room (inl (omega (arith, link, whole, room, short))))
      | inr fits ↦
          let (is, same) = wrote.fits fits (omega (arith, room, most)) in
          let (also, kept) = framed_too.fits (omega (arith, link, whole, room, fits)) most in
          record {
            written = following (packet_link f) bytes frame_old old new frame_new link rest same kept;
            returned = λ n some. also ∙ counted (packet_link f) bytes n link (sym is ∙ some);
            failed = λ n none. absurd (let no = sym is ∙ none in cc);
          }
    ]
