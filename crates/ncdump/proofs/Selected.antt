-- Showing one selected variable after the other.
use Rattle.ncdump.proofs.Prelude.{◌≡◌, ℕ, ◌+◌, ◌<◌, ◌≤◌, ◌⊎◌, inl, inr, Bool, true, false, List, [], ◌∷◌, ◌++◌, length, drop, get_or, refl, sym, ap, ◌∙◌, append_assoc, subst, arith, Option, Some, None, Result, Ok, Err, ℤ, slice_get, ◌&&◌, if◌then◌else◌, IfSome, rules, OnTrue, drop-cons, append-nil, drop_all, get_or_from_slice_get, slice_get_within, slice_get-get_or, Var, Look, look_of, DataText, no_data_text, whole, data_truncated, values_in_file, has_values, with_variable, variables_text, shown_data, SourceView, having_read, SinkView, Appended, FailedPartway, appended_then, appended_partway, after_after, transparent_both, DumpFault, ReadFailed, WriteFailed, DataTruncated, Dumped, dumped, prefix_text, ShowsOne, ShowsAt, ShowsSelected, values_and, values_alone, values_from, whole_values, whole_bytes, bytes_of, Holds, KeepsUp, KeepsUpIn, IsBefore, IsShown, IsUnread, IsUnwritten, IsUpToDate, AreShown, AreUnread, AreUnwritten, between}
use Rattle.ncdump.proofs.OneVariable.{some-at}
use Rattle.nc_types.specs.declared.nc_type.NcType.TheVariants.{Byte}
use Rattle.ncdump.proofs.Calls.{call}
use Rattle.ncdump.proofs.Prefixes.{prefix-in-text}
use Rattle.ncdump.proofs.Held.{holds-all, holds-prefix, holds-after, holds-partway}

-- ---- the list from a place on

from-place : {X : Type 0} (xs : List X) (v : ℕ) (x : X) → slice_get xs v ≡ Some x → drop v xs ≡ x ∷ drop (v + 1) xs
from-place xs v x is = grind (arith, drop-cons xs v x (slice_get_within xs v x is), slice_get_within xs v x is, get_or_from_slice_get xs v x x is)

-- the values of the variables from index v on, and their bytes, by whether the first of them is shown
pub values-at : (d : Dumped) (selection : List Bool) (v : ℕ) (var : Var) (is_selected shown : Bool) → slice_get d.header.vars v ≡ Some var → slice_get selection v ≡ Some is_selected
    → shown ≡ (is_selected && has_values d.header.dims d.records var)
    → values_from d selection v ≡ (if shown then values_and d v var (values_from d selection (v + 1)) else values_from d selection (v + 1))
values-at d selection v var is_selected shown at selected is = search (rules, from-place)

bytes-at : (d : Dumped) (selection : List Bool) (v : ℕ) (var : Var) (is_selected shown : Bool) → slice_get d.header.vars v ≡ Some var → slice_get selection v ≡ Some is_selected
    → shown ≡ (is_selected && has_values d.header.dims d.records var)
    → bytes_of d (drop v d.header.vars) (drop v selection) ≡ (if shown then whole_bytes d var else 0) + bytes_of d (drop (v + 1) d.header.vars) (drop (v + 1) selection)
bytes-at d selection v var is_selected shown at selected is = search (rules, from-place)

no-selection : (d : Dumped) (v : ℕ) (vars : List Var) → variables_text (shown_data d.header (values_in_file d.header d.bytes d.records) d.records d.width) v vars [] ≡ no_data_text
no-selection d v [] = refl
no-selection d v (var ∷ vars) = refl

no-bytes : (d : Dumped) (vars : List Var) → bytes_of d vars [] ≡ 0
no-bytes d [] = refl
no-bytes d (var ∷ vars) = refl

-- ---- a variable's values before a section

whole-and : (look : Look) (values : List ℤ) (missing : Option ℕ) (v : ℕ) (others : DataText) → (with_variable look values missing v no_data_text).ending ≡ whole
    → ((with_variable look values missing v others).text ≡ (with_variable look values missing v no_data_text).text ++ others.text)
    × ((with_variable look values missing v others).ending ≡ others.ending)
whole-and look values missing v others h = grind (arith, append-nil)

cut-and : (look : Look) (values : List ℤ) (missing : Option ℕ) (v w k : ℕ) (others : DataText) → (with_variable look values missing v no_data_text).ending ≡ data_truncated w k
    → ((with_variable look values missing v others).text ≡ (with_variable look values missing v no_data_text).text)
    × ((with_variable look values missing v others).ending ≡ data_truncated w k)
cut-and look values missing v w k others h = grind arith

pub more-and : (look : Look) (values : List ℤ) (missing : Option ℕ) (v : ℕ) (others : DataText)
    → (more : List ℕ) × ((with_variable look values missing v others).text ≡ (with_variable look values missing v no_data_text).text ++ more)
more-and look values None v others = (others.text, ap (λ (t : List ℕ). t ++ others.text) (sym (append-nil _)))
more-and look values (Some k) v others = ([], sym (append-nil _))

-- ---- from place to place

-- the values of the selected variables before place v are shown
pub record Selected (d : Dumped) (selection : List Bool) (buffer_len v : ℕ) (a b : SourceView) (old new : SinkView) : Type 0 where
  pub prefix : List ℕ
  pub spent : ℕ
  pub is_before : IsBefore d selection v prefix spent
  pub appended : Appended old new prefix
  pub handed : b ≡ having_read a spent
  pub keeps_up : (b ≡ a) ⊎ KeepsUpIn d selection buffer_len (between a b) (Holds old new)

pub selected-begins : (d : Dumped) (selection : List Bool) (buffer_len : ℕ) (a : SourceView) (old : SinkView) → Appended old old [] → Selected d selection buffer_len 0 a a old old
selected-begins d selection buffer_len a old none = search rules

module _ (d : Dumped) (selection : List Bool) (buffer_len v : ℕ) (a b : SourceView) (old new : SinkView) (m : Selected d selection buffer_len v a b old new)
    (var : Var) (is_selected : Bool) (at : slice_get d.header.vars v ≡ Some var) (selected : slice_get selection v ≡ Some is_selected) where
  -- a variable isn't shown
  pub selected-skips : false ≡ (is_selected && has_values d.header.dims d.records var) → Selected d selection buffer_len (v + 1) a b old new
  selected-skips is = record {
    prefix = m.prefix;
    spent = m.spent;
    is_before = record {
      text_is = m.is_before.text_is ∙ ap (λ (s : DataText). m.prefix ++ s.text) (values-at d selection v var is_selected false at selected is);
      ending_is = m.is_before.ending_is ∙ ap (λ (s : DataText). s.ending) (values-at d selection v var is_selected false at selected is);
      spent_is = omega (arith, m.is_before.spent_is, bytes-at d selection v var is_selected false at selected is);
    };
    appended = m.appended;
    handed = m.handed;
    keeps_up = m.keeps_up;
  }

  module _ (c : SourceView) (newer : SinkView) (shown : true ≡ (is_selected && has_values d.header.dims d.records var)) where
    look : Look
    look = look_of d.header var d.records d.width

    -- the values from this place on
    values-here : values_from d selection v ≡ values_and d v var (values_from d selection (v + 1))
    values-here = values-at d selection v var is_selected true at selected shown

    bytes-here : bytes_of d (drop v d.header.vars) (drop v selection) ≡ whole_bytes d var + bytes_of d (drop (v + 1) d.header.vars) (drop (v + 1) selection)
    bytes-here = bytes-at d selection v var is_selected true at selected shown

    is-selected : (x y : Bool) → true ≡ (x && y) → x ≡ true
    is-selected x y h = grind arith

    has-some : (x y : Bool) → true ≡ (x && y) → y ≡ true
    has-some x y h = grind arith

    -- the text of the variable's first values stands after what was shown before
    keeps-up-in : (Taken : List ℕ → Type 0) (k : KeepsUp d var buffer_len (between (having_read a m.spent) c) (λ (values : List ℕ). Taken (m.prefix ++ values))) → KeepsUpIn d selection buffer_len (between a c) Taken
    keeps-up-in Taken k = grind (arith, is-selected is_selected _ shown, has-some is_selected _ shown)

    -- all its values are shown
    pub selected-on : IsShown d v var whole (call buffer_len (having_read a m.spent) c new newer) → Selected d selection buffer_len (v + 1) a c old newer
    selected-on s =
        let alone = values_alone d v var in
        let split = whole-and _ _ _ v (values_from d selection (v + 1)) s.ends in
        let prefix = prefix-in-text d v var (whole_values d var) (omega arith) in
        let handed : c ≡ having_read a (m.spent + whole_bytes d var) = s.handed ∙ after_after a m.spent (whole_bytes d var) in
        record {
          prefix = m.prefix ++ alone.text;
          spent = m.spent + whole_bytes d var;
          is_before = record {
            text_is = m.is_before.text_is ∙ ap (λ (x : DataText). m.prefix ++ x.text) values-here ∙ ap (λ (t : List ℕ). m.prefix ++ t) split.0 ∙ sym (append_assoc m.prefix alone.text _);
            ending_is = m.is_before.ending_is ∙ ap (λ (x : DataText). x.ending) values-here ∙ split.1;
            spent_is = omega (arith, m.is_before.spent_is, bytes-here);
          };
          appended = appended_then old new newer m.prefix alone.text m.appended s.appended;
          handed = handed;
          keeps_up = inr (keeps-up-in (Holds old newer) (record {
            k = whole_values d var;
            few = omega arith;
            taken = holds-prefix old newer (m.prefix ++ prefix_text d var (whole_values d var)) prefix.0 (m.prefix ++ alone.text)
                (ap (λ (t : List ℕ). m.prefix ++ t) prefix.1 ∙ sym (append_assoc m.prefix (prefix_text d var (whole_values d var)) prefix.0))
                (holds-all old newer (m.prefix ++ alone.text) (appended_then old new newer m.prefix alone.text m.appended s.appended));
            handed = omega (arith, ap (λ (x : SourceView). x.handed) handed);
          }));
        }

    -- a value is missing
    pub selected-cut : (w k : ℕ) → IsShown d v var (data_truncated w k) (call buffer_len (having_read a m.spent) c new newer)
        → AreShown d selection (data_truncated w k) (between a c) (λ (section : DataText). Appended old newer section.text)
    selected-cut w k s = search (rules, cut-and, having_read, after_after, values-here, appended_then, bytes-here)

    -- a read failed
    pub selected-unread : IsUnread d var (call buffer_len (having_read a m.spent) c new newer) → AreUnread d selection buffer_len (between a c) (Appended old newer)
    selected-unread s = search (rules, bytes-here, keeps-up-in, appended_then)

    -- a write failed
    pub selected-unwritten : IsUnwritten d v var (call buffer_len (having_read a m.spent) c new newer)
        → AreUnwritten d selection buffer_len (between a c) (λ (section : DataText). FailedPartway old newer section.text) (Holds old newer)
    selected-unwritten s =
        let more = more-and _ _ _ v (values_from d selection (v + 1)) in
        let text = m.is_before.text_is ∙ ap (λ (x : DataText). m.prefix ++ x.text) values-here ∙ ap (λ (t : List ℕ). m.prefix ++ t) more.1 in
        record {
          bytes = s.bytes;
          most = omega (arith, s.most, m.is_before.spent_is, bytes-here);
          partway = subst (FailedPartway old newer) (sym text) (appended_partway old new newer m.prefix (values_alone d v var).text more.0 m.appended s.partway);
          keeps_up = elim s.keeps_up [
            | inl same ↦ still s same
            | inr k ↦ inr (keeps-up-in (Holds old newer) (record {
              k = k.k;
              few = k.few;
              taken = holds-after old new newer m.prefix (prefix_text d var k.k) m.appended k.taken;
              handed = k.handed;
            }))
          ];
        }
      where
        advanced : SourceView → IsUnwritten d v var (call buffer_len (having_read a m.spent) c new newer) → c ≡ having_read a m.spent → KeepsUpIn d selection buffer_len (between a b) (Holds old new) → KeepsUpIn d selection buffer_len (between a c) (Holds old newer)
        advanced x s same k = record {
          v = k.v;
          var = k.var;
          prefix = k.prefix;
          spent = k.spent;
          at = k.at;
          selected = k.selected;
          some = k.some;
          is_before = k.is_before;
          keeps_up = record {
            k = k.keeps_up.k;
            few = k.keeps_up.few;
            taken = holds-partway old new newer (k.prefix ++ prefix_text d k.var k.keeps_up.k) _ k.keeps_up.taken s.partway;
            handed = omega (arith, k.keeps_up.handed, ap (λ (y : SourceView). y.handed) same, ap (λ (y : SourceView). y.handed) m.handed);
          };
        }

        still : IsUnwritten d v var (call buffer_len (having_read a m.spent) c new newer) → c ≡ having_read a m.spent → (c ≡ a) ⊎ KeepsUpIn d selection buffer_len (between a c) (Holds old newer)
        still s same = elim m.keeps_up [ inl first ↦ inl (same ∙ sym m.handed ∙ first) | inr k ↦ inr (advanced c s same k) ]

-- all selected variables are shown
pub selected-all : (d : Dumped) (selection : List Bool) (buffer_len v : ℕ) (a b : SourceView) (old new : SinkView) → length selection ≤ v → Selected d selection buffer_len v a b old new
    → AreShown d selection whole (between a b) (λ (section : DataText). Appended old new section.text) × IsUpToDate d selection buffer_len (between a b) (Holds old new)
selected-all d selection buffer_len v a b old new all m = search (rules, drop_all, no_data_text, no-selection, no-bytes, append-nil)

-- ---- a turn of the loop

-- what is known of the variable in a place, and of whether it is selected
module _ (d : Dumped) (selection : List Bool) (v : ℕ) (shown : Bool) (there : v < length d.header.vars) (in-selection : v < length selection)
    (tested : IfSome (slice_get d.header.vars v) (λ var. shown ≡ (get_or selection v false && has_values d.header.dims d.records var))) where
  abbrev pub var-here : Var
  var-here = get_or d.header.vars v (record { name = []; dimids = []; atts = []; ty = Byte; begin_at = 0 })

  at-here : slice_get d.header.vars v ≡ Some var-here
  at-here = slice_get-get_or d.header.vars v _ there

  selected-here : slice_get selection v ≡ Some (get_or selection v false)
  selected-here = slice_get-get_or selection v false in-selection

  shown-here : shown ≡ (get_or selection v false && has_values d.header.dims d.records var-here)
  shown-here = some-at (λ (var : Var). shown ≡ (get_or selection v false && has_values d.header.dims d.records var)) (slice_get d.header.vars v) var-here at-here tested

  pub place-skips : (buffer_len : ℕ) (a b : SourceView) (old new : SinkView) → shown ≡ false → Selected d selection buffer_len v a b old new → Selected d selection buffer_len (v + 1) a b old new
  place-skips buffer_len a b old new not m = selected-skips d selection buffer_len v a b old new m var-here (get_or selection v false) at-here selected-here (sym not ∙ shown-here)

  module _ (is_transparent : Bool) (buffer_len buf : ℕ) (a b c : SourceView) (old new newer : SinkView) (width : buf ≡ buffer_len) (yes : shown ≡ true)
      (m : OnTrue is_transparent (Selected d selection buffer_len v a b old new)) where
    is-shown : true ≡ (get_or selection v false && has_values d.header.dims d.records var-here)
    is-shown = sym yes ∙ shown-here

    -- what showing the variable has done, as it follows on what was done before
    done : {A : Type 0} (result : Result A DumpFault) → Selected d selection buffer_len v a b old new → d ≡ dumped d.header a d.records d.width
        → ShowsAt (dumped d.header b d.records d.width) v (call buf b c new newer) result
        → (k : Selected d selection buffer_len v a b old new) × ShowsOne d v (call buffer_len (having_read a k.spent) c new newer) result var-here
    done result k is shows =
        let here = some-at (ShowsOne (dumped d.header b d.records d.width) v (call buf b c new newer) result) (slice_get d.header.vars v) var-here at-here shows in
        let wide = subst (λ (n : ℕ). ShowsOne (dumped d.header b d.records d.width) v (call n b c new newer) result var-here) width here in
        let from = subst (λ (x : SourceView). ShowsOne (dumped d.header x d.records d.width) v (call buffer_len x c new newer) result var-here) k.handed wide in
        (k, subst (λ (e : Dumped). ShowsOne e v (call buffer_len (having_read a k.spent) c new newer) result var-here) (sym is) from)

    pub place-shown : d ≡ dumped d.header a d.records d.width
        → OnTrue is_transparent (ShowsAt {A = Unit {0}} (dumped d.header b d.records d.width) v (call buf b c new newer) (Ok tt))
        → OnTrue is_transparent (Selected d selection buffer_len (v + 1) a c old newer)
    place-shown is shows = transparent_both is_transparent (λ k s.
        let p = done {A = Unit {0}} (Ok tt) k is s in
        selected-on d selection buffer_len v a b old new p.0 var-here (get_or selection v false) at-here selected-here c newer is-shown p.1) m shows

    failed : (fault : DumpFault) (k : Selected d selection buffer_len v a b old new) → ShowsOne {A = Unit {0}} d v (call buffer_len (having_read a k.spent) c new newer) (Err fault) var-here
        → ShowsSelected {A = Unit {0}} d selection (call buffer_len a c old newer) (Err fault)
    failed (DataTruncated w n) k s = selected-cut d selection buffer_len v a b old new k var-here (get_or selection v false) at-here selected-here c newer is-shown w n s
    failed ReadFailed k s = selected-unread d selection buffer_len v a b old new k var-here (get_or selection v false) at-here selected-here c newer is-shown s
    failed WriteFailed k s = selected-unwritten d selection buffer_len v a b old new k var-here (get_or selection v false) at-here selected-here c newer is-shown s
    failed _ k s = absurd s

    pub place-failed : (fault : DumpFault) → d ≡ dumped d.header a d.records d.width
        → OnTrue is_transparent (ShowsAt {A = Unit {0}} (dumped d.header b d.records d.width) v (call buf b c new newer) (Err fault))
        → OnTrue is_transparent (ShowsSelected {A = Unit {0}} d selection (call buffer_len a c old newer) (Err fault))
    place-failed fault is shows = transparent_both is_transparent (λ k s. let p = done {A = Unit {0}} (Err fault) k is s in failed fault p.0 p.1) m shows
