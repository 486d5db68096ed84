-- Texts on a page, one behind another.
-- Assumes nothing.
use mathlib.Core.Path.{◌≡◌, refl, sym, ap, ap₂, ◌∙◌}
use mathlib.Core.List.{List, [], ◌++◌, append_assoc, append-nil}
use mathlib.Core.Option.{some}
use Prim.Native.Nat.{ℕ, ◌+◌, ◌≤◌}
use native.Mathlib.Omega.{arith}
use lib.ListN.{length, take, drop, length-append, take-append-drop}
use lib.Seq.{drop-append-add, drop-drop, length-take-le, take_at, drop_at}
use Rattle.std.specs.Borrow.{MutBor}
use Rattle.text_lines.specs.Text.{Added, ShowsText}
use Rattle.text_lines.specs.Page.{Begun, Written}
use Rattle.text_lines.specs.declared.page.Page.{Page}

-- ---- bytes

-- the same text under another name, and a wider bound
added_reword : {m k : ℕ} {text other old new : List ℕ} {at next : ℕ} → m ≤ k → text ≡ other → Added m text at old next new → Added k other at old next new
added_reword {at} {next} h e w = record {
  counts = w.counts ∙ ap (λ (t : List ℕ). at + length t) e;
  short = omega (arith, w.short);
  within = w.within;
  bytes = rw e at w.bytes;
  long = w.long;
}

added_then : {m k : ℕ} {first second old mid new : List ℕ} {at a next : ℕ} → Added m first at old a mid → Added k second a mid next new
    → Added (m + k) (first ++ second) at old next new
added_then {m} {k} {first} {second} {old} {mid} {new} {at} {a} {next} w v = record {
  counts = omega (arith, w.counts, v.counts, length-append first second);
  short = omega (arith, w.short, v.short);
  within = omega (arith, v.within, w.long);
  bytes = v.bytes ∙ ap₂ (λ (x y : List ℕ). x ++ second ++ y) taken dropped ∙ ap (λ (x : List ℕ). x ++ drop next old) (append_assoc (take at old) first second);
  long = v.long ∙ w.long;
}
  where
    length_head : length (take at old ++ first) ≡ a
    length_head = length-append (take at old) first ∙ ap (λ (n : ℕ). n + length first) (length-take-le at old (omega (arith, w.counts, w.within))) ∙ sym w.counts

    taken : take a mid ≡ take at old ++ first
    taken = ap (take a) w.bytes ∙ take_at (take at old ++ first) (drop a old) a length_head

    dropped : drop next mid ≡ drop next old
    dropped =
        ap₂ drop (v.counts ∙ ap (λ (n : ℕ). n + length second) (sym length_head)) w.bytes
        ∙ drop-append-add (take at old ++ first) (drop a old) (length second)
        ∙ drop-drop (length second) a old
        ∙ ap (λ (n : ℕ). drop n old) (sym v.counts)

-- no text
added_none : (old : List ℕ) (at : ℕ) → at ≤ length old → Added 0 [] at old at old
added_none old at h = record {
  counts = omega arith;
  short = omega arith;
  within = h;
  bytes = sym (ap (λ (x : List ℕ). x ++ drop at old) (append-nil (take at old)) ∙ take-append-drop at old);
  long = refl;
}

-- from the front on
shows : {m : ℕ} {text old new : List ℕ} {next : ℕ} → Added m text 0 old next new → ShowsText (some text) old next new
shows {text} {old} {new} {next} w = record {
  within = omega (arith, w.within, w.long);
  front = ap some (sym (ap (take next) w.bytes ∙ take_at text (drop next old) next (omega (arith, w.counts))));
  rest = ap (drop next) w.bytes ∙ drop_at text (drop next old) next (omega (arith, w.counts));
}

-- ---- pages

-- the same text under another name, and a wider bound
pub reword : {m k : ℕ} {text other : List ℕ} {old new : Page} → m ≤ k → text ≡ other → Written m text old new → Written k other old new
reword h e w = record {
  added = added_reword h e w.added;
  same_buffer = w.same_buffer;
}

-- one text behind another
pub then : {m k : ℕ} {first second : List ℕ} {old mid new : Page} → Written m first old mid → Written k second mid new → Written (m + k) (first ++ second) old new
then w v = record {
  added = added_then w.added v.added;
  same_buffer = v.same_buffer ∙ w.same_buffer;
}

-- two texts behind another
pub then_two : {m k : ℕ} {first : List ℕ} {old mid new : Page} (second third : List ℕ) → Written m first old mid → Written k (second ++ third) mid new
    → Written (m + k) (first ++ second ++ third) old new
then_two {first} second third w v = rw (append_assoc first second third) (then w v)

-- no text
pub no_text : (page : Page) → Written 0 [] page page
no_text page = record {
  added = added_none page.out.now page.at page.within;
  same_buffer = refl;
}

-- ---- the buffer, when all is written

-- what the page shows, its buffer shows
pub in_buffer : {m at count : ℕ} {text bytes : List ℕ} {out : MutBor (List ℕ)} {first last : Page} → Begun at out first → Written m text first last → count ≡ last.at
    → bytes ≡ last.out.now → Added m text at out.now count bytes
in_buffer b w e h = rw (e, h, ← b.place, ← b.bytes) w.added

-- the same from the front on
pub shown : {m count : ℕ} {text bytes : List ℕ} {out : MutBor (List ℕ)} {first last : Page} → Begun 0 out first → Written m text first last → count ≡ last.at
    → bytes ≡ last.out.now → ShowsText (some text) out.now count bytes
shown b w e h = shows (in_buffer b w e h)
