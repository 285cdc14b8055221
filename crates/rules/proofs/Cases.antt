-- The plotting cases, computed from the rules.
use Rattle.std.proofs.Common.{refl}
use Rattle.rules.specs.Operations.{before, bonds, widen, wound, grantable, grant, promote, wounded_by_take, wounded_by_give_up}
use Rattle.rules.specs.Calls.{step}
use Rattle.rules.specs.Cases.{played, start, begun, written, built_on_draft, follower_commits_later, follower_ends_too, writer_wounds_reader, reader_wounds_writer, both_share, shared_give_up_wounds_nobody, widening_goes_on, older_wait_first, bonds_count_records, cases, own_wait_before_promoting, all_records_promoted, stamps_not_reused, misreadings, CasesHold, MisreadingsHeldOff}

-- the rules give the answers of the nine cases
pub cases_hold : CasesHold
unfolding played start begun written built_on_draft follower_commits_later follower_ends_too writer_wounds_reader reader_wounds_writer both_share shared_give_up_wounds_nobody widening_goes_on older_wait_first bonds_count_records cases step before bonds widen wound grantable grant promote wounded_by_take wounded_by_give_up
cases_hold = refl

-- the rules give the answers that a misreading would turn
pub misreadings_held_off : MisreadingsHeldOff
unfolding played start begun written shared_give_up_wounds_nobody widening_goes_on older_wait_first own_wait_before_promoting all_records_promoted stamps_not_reused misreadings step before bonds widen wound grantable grant promote wounded_by_take wounded_by_give_up
misreadings_held_off = refl
