-- What is written reads back, and what is read writes back. A string's rule is a label's.
use Prim.Native.Nat.{ℕ, ◌+◌, ◌-◌, ◌≤◌}
use Rattle.std.specs.Prelude.{Ok}
use mathlib.Core.Path.{◌≡◌, refl, sym, ap, subst, ◌∙◌}
use mathlib.Core.Bool.{Bool, true, false, and-true, and-false, false-and}
use mathlib.Core.List.{List, [], ◌∷◌, ◌++◌}
use native.Mathlib.Omega.{arith}
use borrow.Author.Tests.{lt-ltb, le-ltb, eq-eqb, ne_eqb, eqb-true}
use lib.ListN.{length, take, drop, length-drop, take-append-drop}
use lib.Seq.{drop_at, drop-drop, length-take-le, take_at, take-length}
use lib.Dec.{eqb}
use Rattle.octets.specs.Over.{over}
use Rattle.octets.specs.Part.{within}
use Rattle.octets.specs.Text.{units}
use Rattle.octets.proofs.Laws.Part.{rest-drop, within_in, within_none}
use Rattle.rules.proofs.Laws.Accepted.{first_next}
use Rattle.rules.proofs.Laws.Output.{has-written}
use Rattle.octets.specs.declared.count.Bytes.{Bytes}
use Rattle.rules.specs.Output.{writer_output}
use Rattle.rules.specs.Properties.{label_text}
use Rattle.rules.specs.Refusal.{bytes, refusal}
use Rattle.rules.specs.Summary.{part_of}
use Rattle.queues.specs.Read.{format_of, image_from, image_of, part_at, read_image}
use Rattle.queues.specs.RoundTrip.{reserved_zero, ReadsBack, ReadWritesBack, StringIsLabel, WritesBack, WrittenReadsBack}
use Rattle.queues.specs.Steps.{fixed_size, format_steps, is_string}
use Rattle.queues.specs.Write.{image_bytes, write_answer, write_bytes, write_steps}
use Rattle.queues.specs.declared.format.QueueFormat.{QueueFormat}
use Rattle.queues.specs.declared.image.Image.{Image}
use Rattle.queues.proofs.Laws.Read.{accepted-readable, readable-accepted, readable-fits, Readable}
use Rattle.queues.proofs.Laws.Write.{has_room, length-image, passing, Passing}

-- the bytes of a part of the value
part_at-within : (s : List ℕ) (at n : ℕ) → part_of s (part_at at n) ≡ within s at n
unfolding part_at
part_at-within s at n = go (eqb n 0) refl
  where
    go : (b : Bool) → eqb n 0 ≡ b → part_of s (part_at at n) ≡ within s at n
    go true e = rw (eqb-true n 0 e) (within_none s 0 ∙ sym (within_none s at))
    go false e = rw e

-- an image of bytes that pass the writer's steps
image-reads : (f : QueueFormat) (fixed text : List ℕ) → Passing f fixed text → ReadsBack f fixed text (image_bytes f (fixed ++ text))
unfolding image_bytes format_of image_of image_from
image-reads f fixed text p =
    let s : List ℕ = image_bytes f (fixed ++ text) in
    let n = length fixed in
    let m = length text in
    let long : length s ≡ 4 + n + m = length-image f fixed text in
    let rest : length s - (4 + n) ≡ m = omega arith in
    record {
      image =
          readable-accepted s (record { long = omega arith; format = p.format; value = p.value })
          ∙ ap (λ (k : ℕ). Ok (image_from f k (length s - (4 + k)))) (sym p.size)
          ∙ ap (λ (k : ℕ). Ok (image_from f n k)) rest;
      fixed-bytes = part_at-within s 4 n ∙ within_in s 4 n (omega arith) ∙ take_at fixed text n refl;
      text-bytes =
          part_at-within s (4 + n) m
          ∙ within_in s (4 + n) m (omega arith)
          ∙ ap (take m) (sym (drop-drop n 4 s) ∙ drop_at fixed text n refl)
          ∙ take-length text;
    }

written-reads : (f : QueueFormat) (fixed text out : List ℕ) (n : ℕ) → write_answer f fixed text out ≡ Ok (bytes n)
    → ReadsBack f fixed text (take n (write_bytes f fixed text out))
unfolding write_answer write_bytes writer_output over
written-reads f fixed text out n w =
    let image : List ℕ = image_bytes f (fixed ++ text) in
    let h = has-written (refusal (write_steps f fixed text) 0) (length image) out (bytes n) w in
    rw (w, take_at image (drop (length image) out) n (ap (λ (b : Bytes). b.0) (sym h.size))) (image-reads f fixed text (passing f fixed text h.passed))

pub written-reads-back : WrittenReadsBack
written-reads-back = record { reads = written-reads }

-- the image of the bytes that were read, but for the reserved ones
image-again : (s : List ℕ) → 4 ≤ length s → image_bytes (format_of s) (drop 4 s) ≡ reserved_zero s
unfolding image_bytes format_of reserved_zero
image-again [] h = absurd (omega arith)
image-again (a ∷ []) h = absurd (omega arith)
image-again (a ∷ b ∷ []) h = absurd (omega arith)
image-again (a ∷ b ∷ c ∷ []) h = absurd (omega arith)
image-again (a ∷ b ∷ c ∷ d ∷ s) h = refl

length-reserved_zero : (s : List ℕ) → 4 ≤ length s → length (reserved_zero s) ≡ length s
unfolding image_bytes
length-reserved_zero s h = ap length (sym (image-again s h)) ∙ omega (arith, length-drop 4 s)

module _ (s : List ℕ) (r : Readable s) where
  -- the value's bytes are the image's
  fixed-again : part_of s (image_of s).fixed ≡ take (fixed_size (format_of s).kind) (drop 4 s)
  unfolding image_of image_from
  fixed-again = let n = fixed_size (format_of s).kind in part_at-within s 4 n ∙ within_in s 4 n (readable-fits s r)

  text-again : part_of s (image_of s).text ≡ drop (fixed_size (format_of s).kind) (drop 4 s)
  unfolding image_of image_from
  text-again =
      let n = fixed_size (format_of s).kind in
      let m = length s - (4 + n) in
      part_at-within s (4 + n) m
      ∙ within_in s (4 + n) m (omega (arith, readable-fits s r))
      ∙ rest-drop s (4 + n)
      ∙ sym (drop-drop n 4 s)

  steps-again : write_steps (format_of s) (part_of s (image_of s).fixed) (part_of s (image_of s).text) ≡ 0
  unfolding write_steps
  steps-again =
      let n = fixed_size (format_of s).kind in
      let v : List ℕ = drop 4 s in
      let size = length-take-le n v (omega (arith, readable-fits s r, length-drop 4 s)) in
      let whole = eq-eqb (length (take n v)) n size in
      rw (fixed-again, text-again)
      (first_next (format_steps (format_of s)) _ r.format ∙ rw (whole, take-append-drop n v) r.value)

  bytes-again : image_bytes (format_of s) (part_of s (image_of s).fixed ++ part_of s (image_of s).text) ≡ reserved_zero s
  bytes-again = rw (fixed-again, text-again, take-append-drop) (image-again s r.long)

read-writes : (s : List ℕ) (i : Image) (out : List ℕ) → read_image s ≡ Ok i → length s ≤ length out → WritesBack s i out
unfolding image_of image_from
read-writes s i out e h =
    let a = accepted-readable s i e in
    let f = format_of s in
    let fixed : List ℕ = part_of s (image_of s).fixed in
    let text : List ℕ = part_of s (image_of s).text in
    let same = bytes-again s a.0 in
    let size : 4 + length fixed + length text ≡ length s =
    sym (length-image f fixed text) ∙ ap length same ∙ length-reserved_zero s a.0.long in
    let w = has_room f fixed text out (over (image_bytes f (fixed ++ text)) out) (steps-again s a.0) (omega arith) refl in
    subst (λ (j : Image). WritesBack s j out) a.1
    (record {
      answer = sym w.0 ∙ ap (λ (n : ℕ). Ok (bytes n)) size;
      output = sym w.1 ∙ ap (λ (b : List ℕ). over b out) same;
    })

pub read-writes-back : ReadWritesBack
read-writes-back = record { writes = read-writes }

pub string-is-label : (least : ℕ) (text : List ℕ) → StringIsLabel least text
unfolding is_string label_text
string-is-label least text =
    let units_of = length (units text) in
    record {
      label = λ some l m. simp (le-ltb 1024 units_of m, le-ltb units_of least l, ne_eqb (length text) 0 (λ e. omega arith), and-true);
      few = λ l. rw (lt-ltb units_of least l, and-false);
      many = λ l. rw (lt-ltb 1024 units_of l, and-false, false-and);
    }
