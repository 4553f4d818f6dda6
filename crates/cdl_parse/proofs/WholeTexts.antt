-- A whole text: its sections one after the other.
use Rattle.cdl_parse.proofs.Prelude.{◌≡◌, ℕ, suc, true, false, List, [], ◌∷◌, length, refl, sym, ap, ◌∙◌, subst, arith, Result, replicate, All-cons, AreDimids, Dim, Var, Version, Section, Values, Token, finished, run, State, Draft, AllList, AreShaped, unlisted_drafts, is_before_data, is_over, FailsAt, ParseError, names_of, var_names}
use Rattle.cdl_parse.proofs.DraftNames.{unlisted_names}
use Rattle.cdl_statements.specs.declared.fault.CdlFault.{CdlFault}

-- of no variable anything is listed
pub none_listed : (vars : List Var) → AllList vars (replicate (length vars) []) (unlisted_drafts vars)
none_listed [] = tt
none_listed (var ∷ vars) = (record { is = refl; bytes = refl }, none_listed vars)

-- neither before the data section nor in it
pub past_values : (section : Section) → is_before_data section ≡ false → (section ≡ Values → ⊥) → is_over section ≡ true
past_values section h h2 = grind arith

-- what is listed changes no shape
pub listed_shapes : (dims : List Dim) (vars : List Var) (arrays : List (List ℕ)) (drafts : List Draft) → AllList vars arrays drafts → AreShaped dims (unlisted_drafts vars) → AreShaped dims drafts
listed_shapes dims [] [] [] h are = λ k d inside. are k d inside
listed_shapes dims (var ∷ vars) (a ∷ arrays) (d ∷ drafts) h are =
    All-cons (λ (d : Draft). AreDimids dims [] d.var.dimids) d drafts
    (subst (λ (v : Var). AreDimids dims [] v.dimids) (sym h.0.is) (are 0 d (omega arith)))
    (listed_shapes dims vars arrays drafts h.1 (λ k e inside. are (suc k) e (omega (arith, inside))))
listed_shapes dims _ _ _ h are = absurd h

-- the fault of a run is that of the text
pub run_fails : (v : Version) (line : ℕ) (e : ParseError) (r : Result State CdlFault) → FailsAt e r → FailsAt e (finished v line r)
unfolding finished
run_fails v line e r h = grind arith

-- of the same text and version
pub same_run : (T U : List ℕ) (v w : Version) (s t : State) (ps qs : List (List Token)) → U ≡ T → w ≡ v → run U w s ps ≡ run U w t qs → run T v s ps ≡ run T v t qs
same_run T U v w s t ps qs text version is = subst (λ x. run T x s ps ≡ run T x t qs) version (subst (λ x. run x w s ps ≡ run x w t qs) text is)

pub same_end : (T U : List ℕ) (v w : Version) (s : State) (ps : List (List Token)) (r : Result State CdlFault) → U ≡ T → w ≡ v → run U w s ps ≡ r → run T v s ps ≡ r
same_end T U v w s ps r text version is = subst (λ x. run T x s ps ≡ r) version (subst (λ x. run x w s ps ≡ r) text is)

pub same_fault : (T U : List ℕ) (v w : Version) (s : State) (ps : List (List Token)) (e : ParseError) → U ≡ T → w ≡ v → FailsAt e (run U w s ps) → FailsAt e (run T v s ps)
same_fault T U v w s ps e text version h = subst (λ x. FailsAt e (run T x s ps)) version (subst (λ x. FailsAt e (run x w s ps)) text h)

-- the names of the variables of a header are those of the drafts
pub names_known : (names : List (List ℕ)) (vars all : List Var) (drafts : List Draft) → all ≡ vars → names ≡ var_names all → unlisted_drafts vars ≡ drafts → names ≡ names_of drafts
names_known names vars all drafts same are view = are ∙ ap var_names same ∙ unlisted_names vars ∙ ap names_of view
