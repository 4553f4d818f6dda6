-- What a sink goes on to hold.
use Rattle.ncdump.proofs.Prelude.{◌≡◌, ℕ, ◌≤◌, true, List, [], ◌++◌, length, sym, append_assoc, subst, Option, Some, is_some, option_map, unwrap_or, arith, rules, OnTrue_at, OnTrue_from, append-nil, SinkView, append, taken_len, is_transparent, IsPrefixIf, IsCut, Appended, FailedPartway, append-++, cut-append, split_prefix, transparent-append, Holds}

prefix-trans : (a b c : Option (List ℕ)) → IsPrefixIf a b → IsPrefixIf b c → IsPrefixIf a c
prefix-trans a b c h h2 = grind (arith, append_assoc)

cut-trans : (a b c : SinkView) → IsCut a b → IsCut b c → IsCut a c
unfolding IsCut
cut-trans a b c f g = prefix-trans a.taken b.taken c.taken f g

prefix-self : (a : Option (List ℕ)) → IsPrefixIf a a
prefix-self a = grind (arith, append-nil)

cut-self : (s : SinkView) → IsCut s s
unfolding IsCut
cut-self s = prefix-self s.taken

prefix-transparent : (now wanted : Option (List ℕ)) → IsPrefixIf wanted now → is_some wanted ≡ true → is_some now ≡ true
prefix-transparent now wanted h h2 = grind arith

-- what holds a text is transparent, if what held nothing of it was
holds-transparent : (old new : SinkView) (bytes : List ℕ) → is_transparent old ≡ true → IsCut (append old bytes) new → is_transparent new ≡ true
unfolding is_transparent IsCut append
holds-transparent old new bytes transparent cut = grind (arith, prefix-transparent new.taken)

prefix-kept : (now old : Option (List ℕ)) (bytes : List ℕ) → is_some old ≡ true → IsPrefixIf now (option_map (λ prefix. prefix ++ bytes) old)
    → length (unwrap_or old []) ≤ length (unwrap_or now []) → IsPrefixIf old now
prefix-kept (Some x) (Some y) bytes transparent f le = grind (arith, split_prefix)
prefix-kept _ _ bytes transparent f le = grind (arith, split_prefix)

partway-keeps : (s t : SinkView) (bytes : List ℕ) → is_transparent s ≡ true → FailedPartway s t bytes → IsCut s t
unfolding is_transparent IsCut append taken_len
partway-keeps s t bytes transparent partway = grind (arith, prefix-kept t.taken s.taken bytes transparent)

pub holds-partway : (old mid new : SinkView) (bytes more : List ℕ) → Holds old mid bytes → FailedPartway mid new more → Holds old new bytes
holds-partway old mid new bytes more holds partway = search (rules, cut-trans, partway-keeps, holds-transparent)

-- what has grown by a text holds it
pub holds-all : (old new : SinkView) (bytes : List ℕ) → Appended old new bytes → Holds old new bytes
holds-all old new bytes appended = OnTrue_from _ _ (λ transparent.
    subst (IsCut (append old bytes)) (sym (OnTrue_at {P = new ≡ append old bytes} transparent appended.taken)) (cut-self (append old bytes)))

-- and each prefix of it
pub holds-prefix : (old new : SinkView) (prefix rest whole : List ℕ) → whole ≡ prefix ++ rest → Holds old new whole → Holds old new prefix
unfolding IsCut append
holds-prefix old new prefix rest whole is holds = search (rules, cut-trans, append_assoc)

-- a text that was written after another is held after it
pub holds-after : (old mid new : SinkView) (a b : List ℕ) → Appended old mid a → Holds mid new b → Holds old new (a ++ b)
holds-after old mid new a b appended holds = grind (arith, transparent-append old a, append-++ old a b)

-- a call that broke off fell short of a longer text too
pub partway-longer : (s t : SinkView) (bytes more : List ℕ) → FailedPartway s t bytes → FailedPartway s t (bytes ++ more)
partway-longer s t bytes more partway = search (rules, append-++, cut-append)
