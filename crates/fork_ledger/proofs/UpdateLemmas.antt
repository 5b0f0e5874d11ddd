-- A value of a map that is found by its key and written back, as ledgers have it.
pub use Rattle.object_table.proofs.UpdateLemmas.{found_in, insert_same, written_back}
