-- What it takes to put texts into a buffer one after another: a text that starts where another ends makes one text with it, and a store is
-- a text of one byte.
use Prim.Native.Nat.{ℕ, suc, ◌+◌, ◌-◌, ◌≤◌, ◌<◌}
use native.Mathlib.Nat.{add_assoc}
use native.Mathlib.Omega.{arith}
use mathlib.Core.Path.{◌≡◌, refl, sym, ap, ◌∙◌}
use mathlib.Core.List.{List, [], ◌∷◌, ◌++◌, append_assoc}
use lib.ListN.{length, take, drop, set, length-append, length-drop}
use borrow.Author.Tests.{lt-ltb, le-ltb}
use borrow.Rule.Slice.PartMut.{put_mid}
use Rattle.std.proofs.lemmas.Slice.{put_mid-paste}
use lib.Seq.{take-length, length-take-le, append_snoc, take_at, drop_at, drop-drop, set_split, paste-zero}
use Rattle.report.specs.Text.{written}
use Rattle.report.specs.Put.{Put, taken, LinePut}

pub written_none : (out : List ℕ) (at : ℕ) → out ≡ written out at []
unfolding written
written_none out at = paste-zero out at []

pub written_append : (out : List ℕ) (at : ℕ) (a b : List ℕ) → at ≤ length out
    → written (written out at a) (at + length a) b ≡ written out at (a ++ b)
unfolding written
written_append out at a b l =
    let front = take at out ++ a in
    let whole = front ++ drop (at + length a) out in
    let size : length front ≡ at + length a = length-append (take at out) a ∙ rw (length-take-le at out l) in
    let rest : drop (at + length a + length b) whole ≡ drop (at + length (a ++ b)) out =
    sym (drop-drop (length b) (at + length a) whole)
    ∙ ap (λ (r : List ℕ). drop (length b) r) (drop_at front (drop (at + length a) out) (at + length a) size)
    ∙ drop-drop (length b) (at + length a) out
    ∙ ap (λ (n : ℕ). drop n out) (add_assoc at (length a) (length b) ∙ ap (λ (n : ℕ). at + n) (sym (length-append a b))) in
    ap (λ (r : List ℕ). r ++ b ++ drop (at + length a + length b) whole)
    (take_at front (drop (at + length a) out) (at + length a) size)
    ∙ ap (λ (r : List ℕ). front ++ b ++ r) rest
    ∙ ap (λ (r : List ℕ). r ++ drop (at + length (a ++ b)) out) (append_assoc (take at out) a b)

pub written_one : (out : List ℕ) (at byte : ℕ) → at < length out → set out at byte ≡ written out at (byte ∷ [])
unfolding written
written_one out at byte l =
    let next : suc at ≡ at + 1 = omega arith in
    set_split out at byte l ∙ ap (λ (n : ℕ). take at out ++ byte ∷ drop n out) next
    ∙ sym (append_snoc (take at out) byte (drop (at + 1) out))

pub put_more : {out middle after a b : List ℕ} {at between next : ℕ} → at ≤ length out → Put out at a middle between
    → Put middle between b after next → Put out at (a ++ b) after next
put_more {out} {middle} {after} {a} {b} {at} {between} {next} l p q =
    let sum : length (a ++ b) ≡ length a + length b = length-append a b in
    record {
      end = q.end ∙ rw (p.end, sum) (add_assoc at (length a) (length b));
      there = q.there ∙ rw (p.there, p.end) (written_append out at a b l);
    }

-- a text copied into a part of the buffer
pub put_copied : (out : List ℕ) (at : ℕ) (text : List ℕ) → at + length text ≤ length out
    → Put out at text (put_mid at (at + length text - at) out text) (at + length text)
unfolding written
put_copied out at text room =
    let size : length text ≡ at + length text - at = omega arith in
    record { end = refl; there = put_mid-paste at (at + length text - at) out text text (length text) refl size refl ∙ rw take-length }

pub put_one : (out : List ℕ) (at byte : ℕ) → at < length out → Put out at (byte ∷ []) (set out at byte) (at + 1)
put_one out at byte l = record { end = refl; there = written_one out at byte l }

-- ---- a line if there is room for it

pub line_none : (out text : List ℕ) → length out < 64 → LinePut out text out 0
unfolding taken
line_none out text l =
    let e = lt-ltb (length out) 64 l in
    record { len = rw e; there = rw e (written_none out 0); within = omega arith }

pub line_all : {out text after : List ℕ} {next : ℕ} → 64 ≤ length out → length after ≡ length out → Put out 0 text after next
    → LinePut out text after next
unfolding taken written
line_all {out} {text} l same p =
    let e = le-ltb (length out) 64 l in
    let parts = length-append text (drop (0 + length text) out) in
    record {
      len = rw e (omega (arith, p.end));
      there = rw e p.there;
      within = omega (arith, p.end, same, ap length p.there, parts, length-drop (0 + length text) out);
    }
