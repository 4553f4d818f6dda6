-- For contracts. What is answered for the outcome of reading a header.
use Rattle.std.specs.Prelude.{ℕ, ◌≡◌, List, [], map, Result, Ok, Err, MatchResult}
use Rattle.nc_base.specs.declared.{fault.FormatFault.FormatFault, header.Header.Header}
use Rattle.nc_window.specs.declared.head_fault.HeadFault.{HeadFault}
use Rattle.nc_window.specs.declared.head_fault.HeadFault.TheVariants as head
use Rattle.nc_findings.specs.declared.{listing.Listing.Listing, entry.Entry.Entry, list_fault.ListFault.ListFault}
use Rattle.nc_findings.specs.declared.list_fault.ListFault.TheVariants.{OutOfMemory, ReadFailed}
use Rattle.nc_fields.specs.Entries.{seen_by}
use Rattle.nc_fields.specs.code.Checks.{with_fault}

-- the listing of these entries with this fault at the last one, which ends here in a file of this length, before its start is put there
pub record Stops (entries : List Entry) (end file_len : ℕ) (fault : FormatFault) (l : Listing) : Type 0 where
  pub entries_are : map seen_by l.entries ≡ with_fault fault (map seen_by entries)
  pub header : l.header ≡ Err fault
  pub end_is : l.end ≡ end
  pub file_len_is : l.file_len ≡ file_len

-- the listing of these entries, which ends here in a file of this length, before its start is put there; or the failure
abbrev pub Answers : List Entry → ℕ → ℕ → Result Header HeadFault → Result Listing ListFault → Type 0
Answers entries end file_len (Ok h) result =
    result ≡ Ok (record { entries = entries; header = Ok h; start = []; end = end; file_len = file_len })
Answers entries end file_len (Err (head.Format fault)) result = MatchResult result (Stops entries end file_len fault) (λ e. e ≡ OutOfMemory)
Answers entries end file_len (Err head.OutOfMemory) result = result ≡ Err OutOfMemory
Answers entries end file_len (Err head.ReadFailed) result = result ≡ Err ReadFailed
