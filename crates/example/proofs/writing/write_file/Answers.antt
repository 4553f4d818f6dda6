use Rattle.std.proofs.Common.{sym, subst}
use Rattle.nc_base.specs.Headers.{IsSound}
use Rattle.example.proofs.IntHeaders.{placed, sound}
use Rattle.example.proofs.writing.write_file.Goals as goal

pub with_begins-requires : goal.with_begins-requires
with_begins-requires g c = subst IsSound (sym c.in_ok-int_header.ensures) sound

pub record_slabs-requires : goal.record_slabs-requires
record_slabs-requires g c = record { sound = (placed _ _ _ c.in_ok-int_header.ensures c.in_ok-header.ensures).sound }

pub write_header-requires-clause-sound : goal.write_header-requires-clause-sound
write_header-requires-clause-sound g c = (placed _ _ _ c.in_ok-int_header.ensures c.in_ok-header.ensures).sound

pub write_header-requires-clause-begins : goal.write_header-requires-clause-begins
write_header-requires-clause-begins g c = (placed _ _ _ c.in_ok-int_header.ensures c.in_ok-header.ensures).begins

pub write_data-requires-clause-sound : goal.write_data-requires-clause-sound
write_data-requires-clause-sound g c = (placed _ _ _ c.in_ok-int_header.ensures c.in_ok-header.ensures).sound

pub write_data-requires-clause-listed : goal.write_data-requires-clause-listed
write_data-requires-clause-listed g c = (placed _ _ _ c.in_ok-int_header.ensures c.in_ok-header.ensures).listed c.in_ok-listed.field-0 c.in_ok-listed.ensures
