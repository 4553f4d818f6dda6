-- For contracts. The test device that opens texts, as its contracts see it.
use Rattle.devices.specs.Openers.{OpenerView}
use Rattle.devices.specs.code.OpenCounts.{view_of}
use Rattle.test_generate.specs.declared.{readers.WatchedTexts.WatchedTexts}

abbrev pub view_of_watched : WatchedTexts → OpenerView
view_of_watched texts = view_of texts.counts
