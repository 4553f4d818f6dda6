-- Showing one variable: a walk and a printer that go on together.
use Rattle.ncdump.proofs.Prelude.{◌≡◌, ℕ, ◌+◌, ◌*◌, ◌≤◌, inl, inr, Bool, List, [], ◌++◌, length, take, refl, sym, ap, ◌∙◌, append_assoc, subst, arith, Option, Some, None, Ok, Err, ℤ, slice_get, unwrap_or, IfSome, rules, IsWide, wide_look, OnTrue, take-add, append-nil, take_all, length-append, Header, Var, size_of, numbers, value_count, stored_values, first_missing, Look, look_of, variable_opening, variable_closing, variable_prefix, variable_text, later_pieces, no_data_text, whole, data_truncated, with_variable, prefix-append, prefix_nil, SourceView, having_read, SinkView, Appended, FailedPartway, appended_then, appended_partway, Pass, Walked, HasRead, IsChunk, GivesChunk, GivesEnd, GivesCut, GivesFailure, transparent_any, transparent_map, transparent_both, look_in, HasPrinted, Printed, Stopped, Takes, Dumped, dumped, whole_values, whole_bytes, Holds, IsShown, IsUnread, IsUnwritten, look-type}
use Rattle.std.proofs.Math.Nat.{mul-le-mul_right}
use Rattle.nc_walk.specs.code.Walks.{WalkView, Starts, Steps, Advanced, count}
use Rattle.nc_walk.specs.declared.fault.WalkFault.TheVariants as walk
use Rattle.nc_walk.proofs.Missing.{whole_count-ge}
use Rattle.nc_walk.proofs.WalkSteps.{begun, gives, walked_on}
use Rattle.cdl_print.specs.declared.printer.ValuePrinter.{ValuePrinter}
use Rattle.cdl_print.proofs.Takes.{length-numbers}
use Rattle.ncdump.proofs.Calls.{call, pass}
use Rattle.ncdump.proofs.Prefixes.{count-stored, prefix-in-text}
use Rattle.ncdump.proofs.Held.{holds-all, holds-partway, partway-longer}

-- a walk and a printer stand after the same first values xs, whose prefix is written
pub record Showing (is_transparent : Bool) (h : Header) (v n width buffer_len : ℕ) (w : WalkView) (p : ValuePrinter) (a b : SourceView) (old new : SinkView) : Type 0 where
  pub var : Var
  pub at : slice_get h.vars v ≡ Some var
  pub xs : List ℤ
  pub walked : Walked (pass is_transparent h var n buffer_len a b) w (length xs)
  pub has_printed : HasPrinted (look_of h var n width) xs p
  pub values : OnTrue is_transparent (xs ≡ take (length xs) (stored_values h a.bytes var n))
  pub appended : Appended old new (variable_prefix (look_of h var n width) xs)

-- what holds of an element that is there
pub some-at : {X : Type 0} (P : X → Type 0) (o : Option X) (x : X) → o ≡ Some x → IfSome o P → P x
some-at P o x h h2 = grind arith

pub at-some : {X : Type 0} (P : X → Type 0) (o : Option X) (x : X) → o ≡ Some x → P x → IfSome o P
at-some {X = X} P o x is holds = subst (λ (q : Option X). IfSome q P) (sym is) holds

total-of : (h : Header) (var : Var) (n width : ℕ) → (look_of h var n width).total ≡ value_count h.dims var n
unfolding look_of
total-of h var n width = refl

-- where both begin
pub showing-begins : (is_transparent : Bool) (h : Header) (v n width buffer_len : ℕ) (w : WalkView) (p : ValuePrinter) (a : SourceView) (old new : SinkView) (s : Starts h v n buffer_len w)
    → HasPrinted (look_of h s.var n width) [] p → Appended old new (variable_opening (look_of h s.var n width)) → Showing is_transparent h v n width buffer_len w p a a old new
showing-begins is_transparent h v n width buffer_len w p a old new s has_printed appended = search (rules, begun, transparent_any, prefix_nil)

module _ (is_transparent : Bool) (h : Header) (v n width buffer_len : ℕ) (w : WalkView) (p : ValuePrinter) (a b : SourceView) (old new : SinkView)
    (s : Showing is_transparent h v n width buffer_len w p a b old new) where
  abbrev pub d : Dumped
  d = dumped h a n width

  abbrev pub look : Look
  look = look_of h s.var n width

  abbrev walk_to : SourceView → Pass
  walk_to x = pass is_transparent h s.var n buffer_len a x

  abbrev pub stored : List ℤ
  stored = stored_values h a.bytes s.var n

  type-in : (look_in p).ty ≡ s.var.ty
  type-in = ap (λ (l : Look). l.ty) s.has_printed.same_look ∙ look-type h s.var n width

  module _ (c : SourceView) (chunk : List ℕ) (steps : Steps is_transparent w b c (Ok (Some chunk))) where
    abbrev pub size : ℕ
    size = size_of s.var.ty

    abbrev pub j : ℕ
    j = count size chunk

    given : GivesChunk (walk_to c) (length s.xs) chunk j
    given = gives (walk_to b) w c (length s.xs) s.walked (Ok (Some chunk)) steps

    abbrev pub ys : List ℤ
    ys = numbers (look_in p).ty chunk

    ys-are : ys ≡ numbers s.var.ty chunk
    ys-are = ap (λ t. numbers t chunk) type-in

    ys-count : length ys ≡ j
    ys-count = ap (λ (zs : List ℤ). length zs) ys-are ∙ length-numbers s.var.ty chunk

    -- the printer can take the chunk
    pub takes-chunk : Takes p chunk
    takes-chunk = search (rules, given, ys-count, type-in, total-of)

    counted : length s.xs + j ≡ length (s.xs ++ ys)
    counted = omega (arith, length-append s.xs ys, ys-count)

    -- a row of the variable has values
    wide : IsWide look (length (s.xs ++ ys))
    wide = λ is some. wide_look h s.var n width (omega (arith, some, counted, given.within))

    -- both have gone on
    pub showing-on : (u : WalkView) (q : ValuePrinter) (newer : SinkView) → Advanced w u (Ok (Some chunk)) → Printed ys p q new newer
        → Showing is_transparent h v n width buffer_len u q a c old newer
    showing-on u q newer advanced printed = record {
      var = s.var;
      at = s.at;
      xs = s.xs ++ ys;
      walked = subst (Walked (walk_to c) u) counted (walked_on (walk_to b) w c (length s.xs) s.walked u chunk steps advanced);
      has_printed = printed.has_printed look s.xs s.has_printed;
      values = transparent_both is_transparent (λ e g.
          ap (λ (zs : List ℤ). zs ++ ys) e ∙ ap (λ (zs : List ℤ). take (length s.xs) stored ++ zs) (ys-are ∙ g.numbers_are)
          ∙ sym (take-add (length s.xs) j stored) ∙ ap (λ (i : ℕ). take i stored) counted) s.values given.chunk_is;
      appended = subst (Appended old newer) (sym (prefix-append look s.xs ys wide)) (appended_then old new newer (variable_prefix look s.xs) (later_pieces look s.xs ys) s.appended (printed.appended look s.xs s.has_printed));
    }

    -- the printer stopped inside of the chunk
    pub unwritten-chunk : (q : ValuePrinter) (newer : SinkView) → Stopped ys p q new newer → OnTrue is_transparent (IsUnwritten d v s.var (call buffer_len a c old newer))
    unwritten-chunk q newer stopped = transparent_both is_transparent (λ e (pg : IsChunk (walk_to c) (length s.xs) chunk j × HasRead (walk_to c) (length s.xs + j)).
        let g = pg.1 in
        let k = length s.xs in
        let partway = stopped.partway look s.xs s.has_printed in
        let few : k + j ≤ whole_values d s.var = whole_count-ge h s.var n a.bytes (k + j) given.within g.whole in
        let most : (k + j) * size ≤ whole_values d s.var * size = mul-le-mul_right size few in
        let handed : c.handed ≡ a.handed + (k + j) * size = ap (λ (x : SourceView). x.handed) g.handed in
        let values : s.xs ++ ys ≡ take (k + j) stored =
        ap (λ (zs : List ℤ). zs ++ ys) e ∙ ap (λ (zs : List ℤ). take k stored ++ zs) (ys-are ∙ pg.0.numbers_are) ∙ sym (take-add k j stored) in
        let text = prefix-in-text d v s.var (k + j) few in
        let prefix : variable_prefix look (take (k + j) stored) ≡ variable_prefix look s.xs ++ later_pieces look s.xs ys = ap (variable_prefix look) (sym values) ∙ prefix-append look s.xs ys wide in
        record {
          bytes = ap (λ (x : SourceView). x.bytes) g.handed;
          most = omega (arith, handed, most);
          partway = subst (FailedPartway old newer) (sym (text.1 ∙ ap (λ (t : List ℕ). t ++ text.0) prefix ∙ append_assoc (variable_prefix look s.xs) (later_pieces look s.xs ys) text.0))
              (appended_partway old new newer (variable_prefix look s.xs) (later_pieces look s.xs ys) text.0 s.appended partway);
          keeps_up = inr (record {
            k = k;
            few = omega (arith, few);
            taken = subst (λ (zs : List ℤ). Holds old newer (variable_prefix look zs)) e (holds-partway old new newer (variable_prefix look s.xs) _ (holds-all old new (variable_prefix look s.xs) s.appended) partway);
            handed = omega (arith, handed, given.capacity, given.length_is);
          });
        }) s.values (transparent_both is_transparent (λ chunk_is read. (chunk_is, read)) given.chunk_is given.read)

  -- no value is left, and the closing is written, or not
  module _ (c : SourceView) (steps : Steps is_transparent w b c (Ok None)) where
    ended : GivesEnd (walk_to c) (length s.xs)
    ended = gives (walk_to b) w c (length s.xs) s.walked (Ok None) steps

    all-stored : OnTrue is_transparent (s.xs ≡ stored)
    all-stored = transparent_map is_transparent (λ e. e ∙ take_all (length s.xs) stored (omega (arith, ended.all, count-stored d s.var))) s.values

    closing-of : variable_closing (look_in p) ≡ variable_closing look
    closing-of = ap variable_closing s.has_printed.same_look

    pub shown-whole : (newer : SinkView) → Appended new newer (variable_closing (look_in p)) → OnTrue is_transparent (IsShown d v s.var whole (call buffer_len a c old newer))
    unfolding variable_text
    shown-whole newer appended = search (rules, transparent_both, closing-of, append-nil, appended_then, ended, all-stored)

    pub unwritten-closing : (newer : SinkView) → FailedPartway new newer (variable_closing (look_in p)) → OnTrue is_transparent (IsUnwritten d v s.var (call buffer_len a c old newer))
    unfolding variable_text
    unwritten-closing newer partway = transparent_both is_transparent (λ e (ng : (first_missing h a.bytes s.var n ≡ None) × HasRead (walk_to c) (length s.xs)).
        let none : first_missing h a.bytes s.var n ≡ None = ng.0 in
        let count-is : whole_values d s.var ≡ length s.xs = ap (λ (m : Option ℕ). unwrap_or m (value_count h.dims s.var n)) none ∙ sym ended.all in
        let text : variable_prefix look s.xs ++ (variable_closing (look_in p) ++ []) ≡ (with_variable look stored None v no_data_text).text =
        sym (append_assoc (variable_prefix look s.xs) (variable_closing (look_in p)) [])
        ∙ ap (λ (zs : List ℤ). (variable_prefix look zs ++ variable_closing (look_in p)) ++ []) e ∙ ap (λ (t : List ℕ). (variable_prefix look stored ++ t) ++ []) closing-of in
        let handed : c.handed ≡ a.handed + length s.xs * size_of s.var.ty = ap (λ (x : SourceView). x.handed) ng.1.handed in
        let whole-is : whole_bytes d s.var ≡ length s.xs * size_of s.var.ty = ap (λ (i : ℕ). i * size_of s.var.ty) count-is in
        record {
          bytes = ap (λ (x : SourceView). x.bytes) ng.1.handed;
          most = omega (arith, handed, whole-is);
          partway = subst (FailedPartway old newer) (text ∙ ap (λ (m : Option ℕ). (with_variable look stored m v no_data_text).text) (sym none))
              (appended_partway old new newer (variable_prefix look s.xs) (variable_closing (look_in p)) [] s.appended partway);
          keeps_up = inr (record {
            k = length s.xs;
            few = omega (arith, count-is);
            taken = subst (λ (zs : List ℤ). Holds old newer (variable_prefix look zs)) (e ∙ sym (take_all (length s.xs) stored (omega (arith, ended.all, count-stored d s.var))))
                (holds-partway old new newer (variable_prefix look s.xs) _ (holds-all old new (variable_prefix look s.xs) s.appended) partway);
            handed = omega (arith, handed);
          });
        }) all-stored (transparent_both is_transparent (λ none read. (none, read)) ended.none_missing ended.read)

  -- the next value is missing
  pub shown-prefix : (c : SourceView) (k : ℕ) → Steps is_transparent w b c (Err (walk.DataTruncated k)) → OnTrue is_transparent (IsShown d v s.var (data_truncated v k) (call buffer_len a c old new))
  shown-prefix c k steps =
      let cut : GivesCut (walk_to c) (length s.xs) k = gives (walk_to b) w c (length s.xs) s.walked (Err (walk.DataTruncated k)) steps in
      transparent_both is_transparent (λ e (mr : (first_missing h a.bytes s.var n ≡ Some (length s.xs)) × HasRead (walk_to c) (length s.xs)).
      let missing : first_missing h a.bytes s.var n ≡ Some k = mr.0 ∙ ap Some (sym cut.value_is) in
      let value : variable_prefix look s.xs ≡ variable_prefix look (take k stored) = ap (variable_prefix look) (e ∙ ap (λ (i : ℕ). take i stored) (sym cut.value_is)) in
      record {
        ends = ap (λ (m : Option ℕ). (with_variable look stored m v no_data_text).ending) missing;
        appended = subst (Appended old new) (value ∙ ap (λ (m : Option ℕ). (with_variable look stored m v no_data_text).text) (sym missing)) s.appended;
        handed = mr.1.handed ∙ ap (λ (i : ℕ). having_read a (i * size_of s.var.ty)) (sym (ap (λ (m : Option ℕ). unwrap_or m (value_count h.dims s.var n)) mr.0));
      }) s.values (transparent_both is_transparent (λ missing read. (missing, read)) cut.missing cut.read)

  -- a read failed
  pub unread : (c : SourceView) → Steps is_transparent w b c (Err walk.ReadFailed) → OnTrue is_transparent (IsUnread d s.var (call buffer_len a c old new))
  unread c steps =
      let failure : GivesFailure (walk_to c) (length s.xs) = gives (walk_to b) w c (length s.xs) s.walked (Err walk.ReadFailed) steps in
      transparent_both is_transparent (λ e (r : HasRead (walk_to b) (length s.xs) × ((c.bytes ≡ a.bytes) × ((c.handed ≤ a.handed + whole_bytes d s.var) × (c.handed ≤ a.handed + length s.xs * size_of s.var.ty + buffer_len)))).
      let few : length s.xs ≤ whole_values d s.var = whole_count-ge h s.var n a.bytes (length s.xs) s.walked.within r.0.whole in
      record {
        bytes = r.1.0;
        most = r.1.1.0;
        keeps_up = record {
          k = length s.xs;
          few = few;
          taken = subst (λ (zs : List ℤ). Appended old new (variable_prefix look zs)) e s.appended;
          handed = r.1.1.1;
        };
      }) s.values (transparent_both is_transparent (λ read rest. (read, rest)) s.walked.read (transparent_both is_transparent (λ bytes most_buffer_len. (bytes, most_buffer_len)) failure.bytes (transparent_both is_transparent (λ most buffer_len. (most, buffer_len)) failure.whole failure.capacity)))

-- the opening wasn't written
pub unwritten-opening : (is_transparent : Bool) (h : Header) (v n width buffer_len : ℕ) (w : WalkView) (p : ValuePrinter) (a : SourceView) (old new : SinkView) (s : Starts h v n buffer_len w)
    → HasPrinted (look_of h s.var n width) [] p → FailedPartway old new (variable_opening (look_of h s.var n width)) → OnTrue is_transparent (IsUnwritten (dumped h a n width) v s.var (call buffer_len a a old new))
unwritten-opening is_transparent h v n width buffer_len w p a old new s has_printed partway =
    let d = dumped h a n width in
    let text = prefix-in-text d v s.var 0 (omega arith) in
    transparent_any is_transparent (record {
      bytes = refl;
      most = omega arith;
      partway = subst (FailedPartway old new) (sym (text.1 ∙ ap (λ (t : List ℕ). t ++ text.0) (prefix_nil (look_of h s.var n width))))
          (partway-longer old new (variable_opening (look_of h s.var n width)) text.0 partway);
      keeps_up = inl refl;
    })
