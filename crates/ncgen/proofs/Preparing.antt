-- A text's file stands ready to be written.
use Rattle.ncgen.proofs.Prelude.{Header, Version, file_of, fits, header_spelling, known_records, with_begins, IsSound, IsWhole, SinkView, record_slabs, IsSound-with_begins, begins-below, CdlFault, meaning, meanings_are_whole, Generates, Refuses, file_or_fault, generated, IsReady, Prepares, file_of_prepared, GenFault, Cdl, OffsetTooLarge, WriteFailed, ◌≡◌, inl, inr, ◌∙◌, ℕ, List, [], ◌++◌, length, Bool, true, false, if◌then◌else◌, Ok, Err, refl, sym, ap, arith}
use Rattle.nc_file.specs.code.Begins.{offset_too_large}
use Rattle.nc_walk.specs.declared.write.record_slab.RecordSlab.{RecordSlab}
use Rattle.nc_file.specs.declared.write.begins.OffsetTooLarge.{OffsetTooLarge as NoRoom}
use Rattle.nc_base.proofs.ListedArrays.{are-listed}
use Rattle.cdl_parse.specs.code.DeclaredDatasets.{dataset_of_declared}
use Rattle.cdl_parse.specs.declared.declared_values.Declared.{Declared}
use Rattle.cdl_parse.specs.code.Parsing.{MeansOrOutOfMemory, as_dataset}
use Rattle.ncgen.specs.declared.prepared.Prepared.{Prepared}
use Rattle.ncgen.proofs.Placing.{data-after, listed-after}

-- ---- faults of the text

pub text-fault : (text : List ℕ) (v : Version) (fault : CdlFault) → MeansOrOutOfMemory (as_dataset (Err fault)) (meaning text v) → Refuses (generated text v) (Cdl fault)
unfolding generated
text-fault text v fault (inl stated) = inl (ap file_or_fault (sym stated))
text-fault text v fault (inr memory) = inr cc

-- ---- what a text declares

module _ (text : List ℕ) (v : Version) (d : Declared) (answers : MeansOrOutOfMemory (as_dataset (Ok d)) (meaning text v)) where
  is-meaning : meaning text v ≡ Ok (dataset_of_declared d)
  is-meaning = grind arith

  pub whole : IsWhole v (dataset_of_declared d)
  whole = meanings_are_whole text v (dataset_of_declared d) is-meaning

  -- the dataset doesn't fit
  pub too-large : fits d.header ≡ false → Refuses (generated text v) OffsetTooLarge
  unfolding generated
  too-large e = inl (ap file_or_fault is-meaning ∙ ap (λ (b : Bool). if b then Ok (file_of (dataset_of_declared d)) else Err OffsetTooLarge) e)

  -- the header with its begins is sound
  pub sound : IsSound (with_begins d.header)
  sound = IsSound-with_begins d.header whole.sound

  module _ (each : length d.listed ≡ length d.header.vars) (fit : fits d.header ≡ true)
      (slabs : List RecordSlab) (of_record : slabs ≡ record_slabs 0 (with_begins d.header).dims (with_begins d.header).vars) where
    abbrev prepared : Prepared
    prepared = record { header = with_begins d.header; listed = d.listed; slabs = slabs }

    is-ready : IsReady prepared
    unfolding with_begins
    is-ready = record {
      sound = sound;
      begins = begins-below d.header fit;
      listed =
          (let n = known_records d.header.numrecs in
          listed-after d.header d.header.dims n [] d.header.vars d.listed (are-listed d.header.dims n d.header.vars d.listed each whole.arrays));
      slabs = of_record;
    }

    is-file : file_of (dataset_of_declared d) ≡ file_of_prepared prepared
    unfolding file_of file_of_prepared
    is-file =
        ap (λ (values : List ℕ). header_spelling (with_begins d.header) ++ values)
        (sym (data-after d.header d.listed))

    pub ready : Prepares (generated text v) (Ok prepared)
    unfolding generated
    ready = (
      is-ready,
      ap file_or_fault is-meaning ∙ ap (λ (b : Bool). if b then Ok (file_of (dataset_of_declared d)) else Err OffsetTooLarge) fit ∙ ap Ok is-file,
    )

-- ---- the answer of with_begins

pub record Fitting (h placed : Header) : Type 0 where
  pub fit : fits h ≡ true
  pub same : placed ≡ with_begins h

pub placed : (h : Header) (b : Bool) (h' : Header) → fits h ≡ b → Ok h' ≡ (if b then Ok (with_begins h) else Err offset_too_large) → Fitting h h'
placed h b h' fit e = grind arith

pub not-placed : (h : Header) (b : Bool) (fault : NoRoom) → fits h ≡ b → Err fault ≡ (if b then Ok (with_begins h) else Err offset_too_large) → fits h ≡ false
not-placed h b fault fit e = grind arith

-- ---- a refusal writes nothing

pub refused-text : (text : List ℕ) (v : Version) (sink : SinkView) (fault : GenFault) → Refuses (generated text v) fault → Generates {A = Unit {0}} (generated text v) sink sink (Err fault)
unfolding generated
refused-text text v sink (Cdl fault) refuses = (refl, refuses)
refused-text text v sink OffsetTooLarge refuses = (refl, refuses)
refused-text text v sink WriteFailed refuses = grind arith
